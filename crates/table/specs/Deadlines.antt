-- Refusal 8: "some frame of the table has D above its P", carrying the "first such record". Of frames and not of
-- records: model/Request.FramesWithin.
-- Assumes nothing.
use Rattle.std.specs.Prelude.{Bool, List, ℕ, ◌≤◌, ◌<◌, ltb}
use Rattle.laws.specs.Search.{Found, least_from}
use Rattle.table.specs.Bytes.{record_of}

-- record i has "D above its P"
abbrev pub above : List ℕ → ℕ → Bool
above s i = ltb (record_of s i).p (record_of s i).d

-- the first such of n records
unfoldable pub first_above : ℕ → List ℕ → Found
first_above n s = least_from (above s) n 0

-- ---- the same in words

-- none of the first n records has it
abbrev pub WithinP : List ℕ → ℕ → Type 0
WithinP s n = (j : ℕ) → j < n → (record_of s j).d ≤ (record_of s j).p

-- record i is the first of n that has it
pub record FirstAbove (s : List ℕ) (n i : ℕ) : Type 0 where
  pub inside : i < n
  pub above : (record_of s i).p < (record_of s i).d
  pub first : WithinP s i
