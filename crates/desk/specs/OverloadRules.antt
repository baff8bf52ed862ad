-- The refusals of the overload list, 13 and 12: document 01, "When the desk says no". Each rule is said of the bytes of
-- a table.
-- Assumes nothing.
use Rattle.std.specs.Prelude.{ℕ, ◌+◌, ◌≤◌, ◌<◌, Bool, true, false, List, pos, length, ◌≤ℤ◌, ◌<ℤ◌}
use Rattle.laws.specs.Ladder.{Rule, rule}
use Rattle.model.specs.Task.{Table}
use Rattle.model.specs.Demand.{margin}
use Rattle.model.specs.Verdict.{horizon, Verdict, overloaded, fits, undecided, verdict}
use Rattle.model.specs.Overload.{overload_list}
use Rattle.table.specs.TableOf.{table_of}
use Rattle.requests.specs.Entry.{bytes_of}
use Rattle.place.specs.Place.{no_room}

-- t is the least with a margin below zero
pub record OverloadedAt (table : Table) (t : ℕ) : Type 0 where
  pub from : 1 ≤ t
  pub within : t ≤ horizon
  pub below : margin table t <ℤ pos 0
  pub least : (u : ℕ) → 1 ≤ u → u < t → pos 0 ≤ℤ margin table u

abbrev pub is_calm : Verdict → Bool
is_calm (overloaded t m starts) = false
is_calm (fits window m t) = true
is_calm undecided = true

-- 13: "an overload list asked of a table that isn't overloaded"
abbrev pub not_overloaded : Rule (List ℕ) (List ℕ)
not_overloaded =
    rule 13 (λ s. is_calm (verdict horizon (table_of s))) (λ s. (t : ℕ) × OverloadedAt (table_of s) t)

-- the list of the overload at t, as bytes
abbrev pub list_at : Table → ℕ → List ℕ
list_at table t = bytes_of (overload_list table t)

abbrev pub t_in : Verdict → ℕ
t_in (overloaded t m starts) = t
t_in (fits window m t) = 0
t_in undecided = 0

-- the overload list of a table that is overloaded
abbrev pub list_in : Table → List ℕ
list_in table = list_at table (t_in (verdict horizon table))

-- 12: "the place lies past the buffer's end, or the list has more bytes than the buffer has from there". The two are
-- one: past the end no list ends within it, and from any other place the buffer has `length buffer - place` bytes
abbrev pub lacks_room : List ℕ → ℕ → Rule (List ℕ) (List ℕ)
lacks_room buffer place =
    rule 12 (λ s. no_room (length buffer) place (length (list_in (table_of s))))
    (λ s. (t : ℕ) → OverloadedAt (table_of s) t → place + length (list_at (table_of s) t) ≤ length buffer)
