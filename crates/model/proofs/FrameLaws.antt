-- The test whether a table has a frame catches exactly those that it has not.
-- Assumes nothing.
use Prim.Native.Nat.{ℕ}
use Rattle.laws.proofs.Tests.{Catches, catches_as, catches_le, catches_or}
use Rattle.model.specs.Task.{Table}
use Rattle.model.specs.Request.{HasFrame, no_frame}

pub catches_frame : (table : Table) (k i : ℕ) → Catches (no_frame table k i) (HasFrame table k i)
catches_frame table k i =
    catches_as
    (λ (task, frame). record { task = task; frame = frame })
    (λ has. (has.task, has.frame))
    (catches_or (catches_le table.tasks k) (catches_le (table.task k).count i))
