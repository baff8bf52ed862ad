-- Small tables at the edges of the response: late after a round, late before any, and a value equal to D that is
-- repeated and one that grows. Sporadic tasks are written (E,D,P).
-- Assumes nothing.
use mathlib.Core.Path.{◌≡◌, refl}
use Prim.Native.Nat.{ℕ, zero, suc}
use Rattle.laws.specs.Sums.{sum, greatest}
use Rattle.laws.specs.Search.{least_from}
use Rattle.model.specs.Task.{Task, Table}
use Rattle.model.specs.Demand.{frame, offset, counted}
use Rattle.model.specs.Response.{Response, value, on_time, late, settles, settled_at, response_by, peak_frame, share_of, share_over, response_over, response}

abbrev pub sporadic_task : ℕ → ℕ → ℕ → Task
sporadic_task e d p = record { count = 1; E = λ i. e; D = λ i. d; P = λ i. p }

-- task 0 over task 1
abbrev pub over : Task → Task → Table
over task other = record { tasks = 2; task = λ k. elim k [ zero ↦ task | suc j ↦ other ] }

-- the response of task 1
abbrev pub under : Task → Task → Response
under task other = response (over task other) 1 0

pub record Edges : Type 0 where
  -- (3,4,9) under (2,4,4): 3, 5; (5,4,6) under (1,3,3): E is above D
  pub late_after_one : under (sporadic_task 2 4 4) (sporadic_task 3 4 9) ≡ late 5 1
  pub late_at_once : under (sporadic_task 1 3 3) (sporadic_task 5 4 6) ≡ late 5 0
  -- (2,3,9) under (1,3,3): 2, 3, 3; and under (1,2,2): 2, 3, 4
  pub repeated_at_D : under (sporadic_task 1 3 3) (sporadic_task 2 3 9) ≡ on_time 3 1
  pub grown_past_D : under (sporadic_task 1 2 2) (sporadic_task 2 3 9) ≡ late 4 2

pub edges : Edges
unfolding response response_over response_by settles settled_at value share_over share_of peak_frame counted offset
    frame sum greatest least_from
edges = record { late_after_one = refl; late_at_once = refl; repeated_at_D = refl; grown_past_D = refl }
