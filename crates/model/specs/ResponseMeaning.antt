-- What each response says, as properties: document 01, "Response of a frame", one line for each of its claims.
-- Assumes nothing.
use Rattle.std.specs.Prelude.{◌≡◌, ℕ, suc, ◌-◌, ◌≤◌, ◌<◌}
use Rattle.model.specs.Task.{Task}
use Rattle.model.specs.Response.{value, Response, on_time, late}

-- of more time the share is no smaller: all that the laws ask of a share
abbrev pub NeverFalls : (ℕ → ℕ) → Type 0
NeverFalls share = (v w : ℕ) → v ≤ w → share v ≤ share w

-- the values rise strictly up to number n: none before it is repeated
abbrev pub RisesTo : (ℕ → ℕ) → ℕ → ℕ → Type 0
RisesTo share e n = (m : ℕ) → m < n → value share e m < value share e (suc m)

-- "If a value repeats and is at most D: on time, with the value and the number of rounds, which is the first index of
-- the repeated value .. Rounds on time are at most D minus E."
pub record OnTime (share : ℕ → ℕ) (e d v n : ℕ) : Type 0 where
  pub is : v ≡ value share e n
  pub repeats : (m : ℕ) → n ≤ m → value share e m ≡ v
  pub within : v ≤ d
  pub first : (m : ℕ) → m < n → value share e m < v
  pub rises : RisesTo share e n
  pub few : n ≤ d - e

-- "If a value passes D first: late, with that value and its index."
pub record LateWith (share : ℕ → ℕ) (e d v n : ℕ) : Type 0 where
  pub is : v ≡ value share e n
  pub passes : d < v
  pub first : (m : ℕ) → m < n → value share e m ≤ d
  pub rises : RisesTo share e n

-- what a response says of the recurrence
abbrev pub ResponseSays : (ℕ → ℕ) → ℕ → ℕ → Response → Type 0
ResponseSays share e d (on_time v n) = OnTime share e d v n
ResponseSays share e d (late v n) = LateWith share e d v n

-- "its peak frame (greatest E, lowest number if equal)"
pub record IsPeak (task : Task) (i : ℕ) : Type 0 where
  pub inside : i < task.count
  pub greatest : (j : ℕ) → j < task.count → task.E j ≤ task.E i
  pub lowest : (j : ℕ) → j < i → task.E j < task.E i
