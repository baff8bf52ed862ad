-- The search for the first record with D above its P finds exactly that record, said of the records' numbers.
-- Assumes nothing.
use mathlib.Core.Bool.{false}
use mathlib.Core.Path.{◌≡◌}
use mathlib.Core.List.{List}
use Prim.Native.Nat.{ℕ, ◌≤◌}
use native.Mathlib.Omega.{arith}
use borrow.Author.Tests.{lt-ltb, le-ltb, ltb-true, ltb-false}
use Rattle.laws.specs.Search.{Found, at, nowhere, least_from}
use Rattle.laws.proofs.SearchLaws.{Right, least_right, least_is}
use Rattle.table.specs.Bytes.{record_of}
use Rattle.table.specs.Deadlines.{above, first_above, WithinP, FirstAbove}

-- what the search may answer
abbrev pub AboveTold : List ℕ → ℕ → Found → Type 0
AboveTold s n (at i) = FirstAbove s n i
AboveTold s n nowhere = WithinP s n

module _ (s : List ℕ) (n : ℕ) where
  not_above : (j : ℕ) → (record_of s j).d ≤ (record_of s j).p → above s j ≡ false
  not_above j within = le-ltb _ _ within

  is_within : (j : ℕ) → above s j ≡ false → (record_of s j).d ≤ (record_of s j).p
  is_within j e = ltb-false _ _ e

  pub first_above_is : {i : ℕ} → FirstAbove s n i → first_above n s ≡ at i
  unfolding first_above
  first_above_is {i} it =
      least_is (above s) n 0 i
      (record {
        low = omega arith;
        high = omega (arith, it.inside);
        passes = lt-ltb _ _ it.above;
        first = λ j low less. not_above j (it.first j less);
      })

  pub above_told : AboveTold s n (first_above n s)
  unfolding first_above
  above_told = told (least_from (above s) n 0) (least_right (above s) n 0)
    where
      told : (found : Found) → Right (above s) n 0 found → AboveTold s n found
      told (at i) l =
          record {
            inside = omega (arith, l.high);
            above = ltb-true _ _ l.passes;
            first = λ j less. is_within j (l.first j (omega arith) less);
          }
      told nowhere none = λ j less. is_within j (none j (omega arith) (omega arith))
