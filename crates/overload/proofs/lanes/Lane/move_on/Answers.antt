-- `move_on` meets its contract: it has no loop, and its three stores are the three numbers of the lane that is moved.
-- Assumes nothing.
use native.Mathlib.Omega.{arith}
use Rattle.table.proofs.ReadyLaws.{run_count}
use Rattle.overload.proofs.MoveLaws.{moved_is}
use Rattle.overload.proofs.lanes.Lane.move_on.Goals as goal

pub next-requires : goal.next-requires
next-requires c = omega (arith, run_count c.args.task.now, c.requires.known)

pub frame-requires : goal.frame-requires
frame-requires c = omega (arith, run_count c.args.task.now, c.requires.known)

pub returns : goal.returns
returns c =
    let count = run_count c.args.task.now in
    moved_is _ _ c.from-i.ensures count c.next.ensures c.frame.ensures c.from.ensures
