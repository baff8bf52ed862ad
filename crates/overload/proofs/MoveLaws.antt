-- One request of a task is taken: the lane that is left, in the numbers that the code has.
-- Assumes nothing.
use mathlib.Core.Path.{◌≡◌, sym}
use Prim.Native.Nat.{ℕ, ◌+◌, ◌-◌, ◌%◌}
use Rattle.model.specs.Task.{Task}
use Rattle.model.specs.Demand.{frame}
use Rattle.table.specs.Ready.{FrameIs}
use Rattle.table.specs.declared.record.Record.{Record}
use Rattle.overload.specs.Lanes.{lane_moved}
use Rattle.overload.specs.declared.lanes.Lane.{Lane}

pub moved_is : (task : Task) (x : Lane) {i frames next p : ℕ} {read : Record} → i ≡ x.frame → task.count ≡ frames
    → next ≡ (i + 1) % frames → FrameIs task i read → p ≡ read.p
    → record { left = x.left - 1; frame = next; arrival = x.arrival + p } ≡ lane_moved task x
unfolding lane_moved frame
moved_is task x here count next is p = rw (next, sym count, p, is.p, here)
