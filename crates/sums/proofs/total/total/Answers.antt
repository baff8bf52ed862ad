-- The answers that `total` is asked for.
-- Assumes nothing.
use native.Mathlib.Omega.{arith}
use Rattle.laws.proofs.Adding.{adding_none, adding_room, adding_on}
use Rattle.table.proofs.ReadyLaws.{ready_of, ready_few}
use Rattle.sums.proofs.TotalLaws.{total_added}
use Rattle.sums.proofs.total.total.Goals as goal

pub loop-k-init : goal.loop-k-init
loop-k-init c = adding_none _ _ _

-- at most sixteen tasks, and t at most the ceiling: far below 2 ^ 64
pub overflow_add-sum : goal.overflow_add-sum
overflow_add-sum c =
    let few = ready_few (ready_of c.args.table.now) in
    omega (arith, adding_room c.loop-k.invariant 16 (omega (arith, c.loop-k.invariant.within, few)))

pub loop-k-preserved : goal.loop-k-preserved
loop-k-preserved c =
    let peak = c.peak_of-sum.ensures in
    adding_on c.loop-k.invariant (omega (arith, c.tasks-k-end.ensures)) peak.sum_is peak.at_most

pub returns : goal.returns
returns c =
    total_added c.loop-k.invariant (ready_few (ready_of c.args.table.now))
    (omega (arith, c.tasks-k-end.ensures))
