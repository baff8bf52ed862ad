-- What is written where a table is overloaded, and what the caller of the writer finds in the buffer that it lent:
-- document 01, "Overload list" and "When the desk says no".
-- Assumes nothing.
use Rattle.std.specs.Prelude.{ℕ, ◌+◌, ◌≤◌, ◌≡◌, List, length, take, drop}
use Rattle.model.specs.Answer.{Answer, answered, refused}
use Rattle.table.specs.TableOf.{table_of}
use Rattle.table.specs.WellFormed.{WellFormed}
use Rattle.overload.specs.Shows.{Shows}
use Rattle.desk.specs.OverloadRules.{OverloadedAt, list_at}

-- the list is that of the overload, and it shows what it is to show
pub record Writes (s list : List ℕ) : Type 0 where
  pub table_good : WellFormed s
  pub t : ℕ
  pub overloaded : OverloadedAt (table_of s) t
  pub is : list ≡ list_at (table_of s) t
  pub shows : Shows (table_of s) t list

-- the list lies in the buffer, which is `after` now: read out of it from the place on it is the list; "bytes before it
-- and after the list stay"
pub record HoldsList (buffer : List ℕ) (place : ℕ) (list after : List ℕ) : Type 0 where
  pub within : place + length list ≤ length buffer
  pub holds : take (length list) (drop place after) ≡ list
  pub before : take place after ≡ take place buffer
  pub behind : drop (place + length list) after ≡ drop (place + length list) buffer
  pub long : length after ≡ length buffer

-- by what was said; of a refusal: "no lent byte changes"
abbrev pub LeavesBehind : List ℕ → List ℕ → ℕ → Answer (List ℕ) → List ℕ → Type 0
LeavesBehind s buffer place (answered list) after = Writes s list × HoldsList buffer place list after
LeavesBehind s buffer place (refused number index) after = after ≡ buffer
