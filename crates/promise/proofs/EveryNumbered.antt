-- A refusal by an order, or by the rules of lists, has a number of the document's table: a ladder's numbers are
-- computed.
-- Assumes nothing.
use mathlib.Core.Bool.{Bool, true, ◌&&◌}
use mathlib.Core.Logic.{inl, inr}
use mathlib.Core.Path.{◌≡◌, refl}
use mathlib.Core.List.{List}
use Prim.Native.Nat.{ℕ, suc}
use native.Mathlib.Omega.{arith}
use lib.Dec.{ltb}
use borrow.Author.Tests.{ltb-true}
use Rattle.laws.specs.Ladder.{all_numbers}
use Rattle.laws.proofs.Every.{and_true_left, and_true_right}
use Rattle.laws.proofs.LadderLaws.{breaks_number}
use Rattle.table.specs.WellFormed.{table_rules}
use Rattle.table.specs.TableRefusals.{TableRefused}
use Rattle.requests.specs.Accepted.{list_rules}
use Rattle.desk.specs.Orders.{TestOrder}
use Rattle.promise.specs.Given.{Given, ListGiven}
use Rattle.promise.specs.RefusalCases.{last_refusal, NumbersOne}

unfoldable pub numbers_one : ℕ → Bool
numbers_one n = ltb 0 n && ltb n (suc last_refusal)

is_one : (number : ℕ) → numbers_one number ≡ true → NumbersOne number
unfolding numbers_one
is_one number is =
    let past = suc last_refusal in
    record {
      from = omega (arith, ltb-true 0 number (and_true_left (ltb 0 number) (ltb number past) is));
      to = omega (arith, ltb-true number past (and_true_right (ltb 0 number) (ltb number past) is));
    }

module _ (s : List ℕ) where
  table_numbered : (number index : ℕ) → TableRefused s number index → NumbersOne number
  unfolding numbers_one
  table_numbered number index (inl long) = let is = long.number_is in record { from = omega arith; to = omega arith }
  table_numbered number index (inr bad) =
      is_one number (breaks_number (s, index) numbers_one table_rules refl number 0 bad.breaks)

  pub list_numbered : (l : List ℕ) (number index : ℕ) → ListGiven s l number index → NumbersOne number
  unfolding numbers_one
  list_numbered l number index (inl bad) = table_numbered number index bad
  list_numbered l number index (inr bad) =
      elim bad.list_bad [
        | inl long ↦ let is = long.number_is in record { from = omega arith; to = omega arith }
        | inr broken ↦
            is_one number (breaks_number (l, index) numbers_one (list_rules _ _) refl number 0 broken.breaks)
      ]

  pub order_numbered : (order : TestOrder) → all_numbers numbers_one order ≡ true → (number index : ℕ)
      → Given s order number index → NumbersOne number
  order_numbered order all number index (inl bad) = table_numbered number index bad
  order_numbered order all number index (inr own) =
      is_one number (breaks_number s numbers_one order all number index own.breaks)
