-- The closing window and the verdict: document 01, "What the desk computes".
-- Assumes nothing.
use Rattle.std.specs.Prelude.{Bool, cond, List, ℕ, leb, ltb, ℤ, pos}
use Rattle.std.specs.Int.Signed.{lt_z}
use Rattle.laws.specs.Sums.{tabulate}
use Rattle.laws.specs.Search.{Found, at, nowhere, least_from, first_least}
use Rattle.model.specs.Task.{Task, Table}
use Rattle.model.specs.Demand.{lowest, all_work, margin}

-- "t is 0 to 65,536", and so is every window
unfoldable pub horizon : ℕ
horizon = 65536

-- "the sum of all tasks' work in w at most w"
unfoldable pub closes : Table → ℕ → Bool
closes table w = leb (all_work table w) w

-- "The closing window is the least w from 1 to 65,536 .. if there is one."
unfoldable pub closing_window : ℕ → Table → Found
closing_window limit table = least_from (closes table) limit 1

-- "a margin below zero"
unfoldable pub overloads : Table → ℕ → Bool
overloads table t = lt_z (margin table t) (pos 0)

unfoldable pub first_overload : ℕ → Table → Found
first_overload limit table = least_from (overloads table) limit 1

-- "the lowest frame number that gives that task's demand at t"
abbrev pub start : Task → ℕ → ℕ
start task t = lowest task task.D t

-- "one per task .. (0 past the last task)"
abbrev pub start_in : Table → ℕ → ℕ → ℕ
start_in table t k = cond (ltb k table.tasks) (start (table.task k) t) 0

-- "sixteen start frames"
unfoldable pub starts : Table → ℕ → List ℕ
starts table t = tabulate 16 (start_in table t)

pub data Verdict : Type 0 where
  overloaded : (t : ℕ) (margin : ℤ) (starts : List ℕ) → Verdict
  fits : (window : ℕ) (margin : ℤ) (t : ℕ) → Verdict
  undecided : Verdict

-- "with the least such t, its margin, and sixteen start frames"
unfoldable pub overloaded_at : Table → ℕ → Verdict
overloaded_at table t = overloaded t (margin table t) (starts table t)

-- "with that window, the least margin over t from 1 to the window, and the first t having it"
unfoldable pub fits_at : Table → ℕ → Verdict
fits_at table w = fits w (margin table (first_least (margin table) w)) (first_least (margin table) w)

-- an overload first; "otherwise, if a closing window exists"; "otherwise"
abbrev pub judged : Table → Found → Found → Verdict
judged table (at t) window = overloaded_at table t
judged table nowhere (at w) = fits_at table w
judged table nowhere nowhere = undecided

-- "Verdict", over the limit of the search
unfoldable pub verdict : ℕ → Table → Verdict
verdict limit table = judged table (first_overload limit table) (closing_window limit table)
