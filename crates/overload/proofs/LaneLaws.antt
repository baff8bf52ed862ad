-- Where one task stands before a request is taken, inside the table and past its last task.
-- Assumes nothing.
use mathlib.Core.Path.{◌≡◌}
use mathlib.Core.List.{List}
use Prim.Native.Nat.{ℕ, ◌≤◌, ◌<◌}
use lib.ListN.{get_or}
use borrow.Author.Tests.{lt-ltb, le-ltb}
use Rattle.model.specs.Task.{Table, ProperTable}
use Rattle.model.specs.Verdict.{start_in}
use Rattle.model.proofs.StartLaws.{starts_at, starts_each}
use Rattle.overload.specs.Counts.{Asked}
use Rattle.overload.specs.Counts.{Counted, first_lane}

module _ {table : Table} (good : ProperTable table) {t : ℕ} {first : List ℕ} (asked : Asked table t first) (k : ℕ)
    (low : k < 16) where
  -- the array's start is the table's
  start_is : get_or first k 0 ≡ start_in table t k
  start_is = rw asked.starts_are (starts_at good t k low)

  pub lane_frame : k < table.tasks → get_or first k 0 < (table.task k).count
  lane_frame inside = rw asked.starts_are (starts_each good t k low inside).inside

  pub lane_inside : k < table.tasks → {r : ℕ} → Counted (table.task k) (get_or first k 0) t r
      → record { left = r; frame = get_or first k 0; arrival = 0 } ≡ first_lane table t k
  lane_inside inside counted = rw (counted.is, start_is, lt-ltb k table.tasks inside)

  pub lane_past : table.tasks ≤ k → record { left = 0; frame = get_or first k 0; arrival = 0 } ≡ first_lane table t k
  lane_past past = rw (start_is, le-ltb k table.tasks past)
