-- The answers that `put_all` is asked for.
-- Assumes nothing.
use Prim.Native.Nat.{◌<◌}
use Rattle.std.proofs.Common.{◌∙◌, rules}
use Rattle.table.proofs.ReadyLaws.{ready_of, ready_few, table_proper}
use Rattle.overload.proofs.PutLaws.{putting_start, putting_known, putting_low, putting_room, putting_movable, putting_turn, putting_end}
use Rattle.overload.proofs.lanes.Lanes.put_all.Goals as goal

pub loop-k-init : goal.loop-k-init
loop-k-init c =
    putting_start c.requires c.tasks-tasks.ensures (ready_few (ready_of c.args.table.now)) (search rules)

pub bounds-self-k : goal.bounds-self-k
bounds-self-k c = putting_low c.loop-k.invariant c.in-Some.ensures

pub offset_bounds-self-k : goal.offset_bounds-self-k
offset_bounds-self-k c =
    let low : c.in-Some.k < 16 = putting_low c.loop-k.invariant c.in-Some.ensures in search rules

pub slice_bounds-copy_from_slice-end : goal.slice_bounds-copy_from_slice-end
slice_bounds-copy_from_slice-end c =
    let room = putting_room c.loop-k.invariant c.in-Some.ensures in search rules

pub next_bytes-requires : goal.next_bytes-requires
next_bytes-requires c = putting_low c.loop-k.invariant c.in-Some.ensures

pub task-requires : goal.task-requires
task-requires c = putting_known c.loop-k.invariant c.in-Some.ensures

pub move_on-requires : goal.move_on-requires
move_on-requires c =
    let good = table_proper c.args.table.now in
    rw c.task.ensures (putting_movable c.loop-k.invariant c.in-Some.ensures good)

pub loop-k-preserved : goal.loop-k-preserved
loop-k-preserved c =
    putting_turn c.loop-k.invariant c.in-Some.ensures (search rules)
    (c.move_on.ensures ∙ search rules)

pub returns : goal.returns
returns c = putting_end c.loop-k.invariant c.in_default.ensures
