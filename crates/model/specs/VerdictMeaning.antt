-- What the closing window and each verdict say, as properties: document 01, one line for each of their claims.
-- Assumes nothing.
use Rattle.std.specs.Prelude.{◌≡◌, List, ℕ, ◌≤◌, ◌<◌, ℤ, pos, length, get_or, ◌≤ℤ◌, ◌<ℤ◌}
use Rattle.laws.specs.Search.{Found, at, nowhere}
use Rattle.model.specs.Task.{Task, Table}
use Rattle.model.specs.Demand.{counted, demand, all_work, margin}
use Rattle.model.specs.Verdict.{Verdict, overloaded, fits, undecided}

-- no t from 1 to n has a margin below zero
abbrev pub Calm : Table → ℕ → Type 0
Calm table n = (t : ℕ) → 1 ≤ t → t ≤ n → pos 0 ≤ℤ margin table t

-- w closes, and no window from 1 to n does
abbrev pub Closes : Table → ℕ → Type 0
Closes table w = all_work table w ≤ w

abbrev pub Open : Table → ℕ → Type 0
Open table n = (w : ℕ) → 1 ≤ w → w ≤ n → w < all_work table w

-- "the least w from 1 to 65,536 with the sum of all tasks' work in w at most w"
pub record Closing (limit : ℕ) (table : Table) (w : ℕ) : Type 0 where
  pub from : 1 ≤ w
  pub within : w ≤ limit
  pub closes : Closes table w
  pub least : (v : ℕ) → 1 ≤ v → v < w → v < all_work table v

-- ".. if there is one": what the closing window says of the table
abbrev pub WindowSays : ℕ → Table → Found → Type 0
WindowSays limit table (at w) = Closing limit table w
WindowSays limit table nowhere = Open table limit

-- s is "the lowest frame number that gives that task's demand at t"
pub record StartsAt (task : Task) (t s : ℕ) : Type 0 where
  pub inside : s < task.count
  pub gives : counted task task.D t s ≡ demand task t
  pub lowest : (i : ℕ) → i < s → counted task task.D t i < demand task t

-- "overloaded, with the least such t, its margin, and sixteen start frames"
pub record Overloaded (limit : ℕ) (table : Table) (t : ℕ) (m : ℤ) (starts : List ℕ) : Type 0 where
  pub from : 1 ≤ t
  pub within : t ≤ limit
  pub below : margin table t <ℤ pos 0
  pub least : (u : ℕ) → 1 ≤ u → u < t → pos 0 ≤ℤ margin table u
  pub margin_is : m ≡ margin table t
  pub sixteen : length starts ≡ 16
  pub each : (k : ℕ) → k < 16 → k < table.tasks → StartsAt (table.task k) t (get_or starts k 0)
  pub past : (k : ℕ) → k < 16 → table.tasks ≤ k → get_or starts k 0 ≡ 0

-- "fits, with that window, the least margin over t from 1 to the window, and the first t having it"
pub record Fits (limit : ℕ) (table : Table) (window : ℕ) (m : ℤ) (t : ℕ) : Type 0 where
  pub calm : Calm table limit
  pub window_is : Closing limit table window
  pub t_from : 1 ≤ t
  pub t_within : t ≤ window
  pub margin_is : m ≡ margin table t
  pub lowest : (u : ℕ) → 1 ≤ u → u ≤ window → margin table t ≤ℤ margin table u
  pub first : (u : ℕ) → 1 ≤ u → u < t → margin table t <ℤ margin table u

-- "otherwise: undecided"
pub record Undecided (limit : ℕ) (table : Table) : Type 0 where
  pub calm : Calm table limit
  pub open_ended : Open table limit

-- what a verdict says of the table
abbrev pub Means : ℕ → Table → Verdict → Type 0
Means limit table (overloaded t m starts) = Overloaded limit table t m starts
Means limit table (fits window m t) = Fits limit table window m t
Means limit table undecided = Undecided limit table
