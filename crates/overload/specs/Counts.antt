-- How many requests of each task the overload list has, as the code counts them, and where the tasks stand at first.
-- Assumes nothing.
use Rattle.std.specs.Prelude.{cond, ◌≡◌, List, ℕ, ◌≤◌, ltb, map}
use Rattle.std.specs.List.{range_with_len}
use Rattle.model.specs.Task.{Task, Table}
use Rattle.model.specs.Verdict.{start_in, starts}
use Rattle.model.specs.Overload.{requests_by}
use Rattle.sums.specs.Sized.{ceiling}
use Rattle.overload.specs.declared.lanes.Lane.{Lane}
use Rattle.overload.specs.declared.lanes.Lanes.{Lanes}

-- the list is asked for at t, from these start frames on
pub record Asked (table : Table) (t : ℕ) (first : List ℕ) : Type 0 where
  pub within : t ≤ ceiling
  pub starts_are : first ≡ starts table t

pub record Counted (task : Task) (s t r : ℕ) : Type 0 where
  pub is : r ≡ requests_by task s t
  pub at_most : r ≤ t

-- one number for each task, 0 past the last task
abbrev pub many_in : Table → ℕ → ℕ → ℕ
many_in table t k = cond (ltb k table.tasks) (requests_by (table.task k) (start_in table t k) t) 0

-- where task k stands before a request is taken: the first is of its start frame, and comes at 0
abbrev pub first_lane : Table → ℕ → ℕ → Lane
first_lane table t k = record { left = many_in table t k; frame = start_in table t k; arrival = 0 }

unfoldable pub first_lanes : Table → ℕ → Lanes
first_lanes table t = record { each = map (first_lane table t) (range_with_len 0 16) }
