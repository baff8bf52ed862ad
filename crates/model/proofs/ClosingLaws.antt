-- Overloads and closing windows as facts; past a closing window no overload begins.
-- Assumes nothing.
use mathlib.Core.Bool.{true, false}
use mathlib.Core.Path.{◌≡◌, sym, ◌∙◌, ap}
use mathlib.Core.Logic.{inl, inr}
use Prim.Native.Nat.{ℕ, zero, suc, ◌+◌, ◌-◌, ◌≤◌, ◌<◌}
use native.Mathlib.Nat.{le_refl}
use native.Mathlib.Omega.{arith}
use borrow.Author.Tests.{leb-true, leb-false, ltb-false, le-ltb, lt-ltb, le-leb, lt-leb}
use lib.IntN.{pos}
use lib.Signed.{◌≤ℤ◌, ◌<ℤ◌}
use Rattle.laws.proofs.Cases.{lt_or_le, lt_or_last}
use Rattle.laws.proofs.SignedOrder.{lt_test, le_test, test_lt, test_le}
use Rattle.laws.proofs.SignedLaws.{sub_sign}
use Rattle.model.specs.Task.{Table, ProperTable}
use Rattle.model.specs.Demand.{all_demands, all_work, margin}
use Rattle.model.specs.Verdict.{closes, overloads}
use Rattle.model.proofs.AllLaws.{all_demands_mono, all_demands_split, all_demands_zero}

-- ---- the tests and their facts

module _ (table : Table) (t : ℕ) where
  pub overloads_yes : t < all_demands table t → overloads table t ≡ true
  unfolding overloads
  overloads_yes over = sub_sign t (all_demands table t) ∙ lt-ltb t (all_demands table t) over

  pub overloads_no : all_demands table t ≤ t → overloads table t ≡ false
  unfolding overloads
  overloads_no calm = sub_sign t (all_demands table t) ∙ le-ltb t (all_demands table t) calm

  pub no_overload : overloads table t ≡ false → all_demands table t ≤ t
  unfolding overloads
  no_overload e = ltb-false t (all_demands table t) (sym (sub_sign t (all_demands table t)) ∙ e)

  pub below_zero : overloads table t ≡ true → margin table t <ℤ pos 0
  unfolding overloads
  below_zero e = lt_test (margin table t) (pos 0) e

  pub not_below : overloads table t ≡ false → pos 0 ≤ℤ margin table t
  unfolding overloads
  not_below e = le_test (margin table t) (pos 0) e

  pub is_below : margin table t <ℤ pos 0 → overloads table t ≡ true
  unfolding overloads
  is_below less = test_lt (margin table t) (pos 0) less

  pub is_not_below : pos 0 ≤ℤ margin table t → overloads table t ≡ false
  unfolding overloads
  is_not_below more = test_le (margin table t) (pos 0) more

  pub closes_yes : all_work table t ≤ t → closes table t ≡ true
  unfolding closes
  closes_yes h = le-leb (all_work table t) t h

  pub closes_no : t < all_work table t → closes table t ≡ false
  unfolding closes
  closes_no h = lt-leb (all_work table t) t h

  pub does_close : closes table t ≡ true → all_work table t ≤ t
  unfolding closes
  does_close e = leb-true (all_work table t) t e

  pub stays_open : closes table t ≡ false → t < all_work table t
  unfolding closes
  stays_open e = leb-false (all_work table t) t e

-- ---- no overload below t

abbrev pub CalmBelow : Table → ℕ → Type 0
CalmBelow table t = (u : ℕ) → u < t → all_demands table u ≤ u

module _ {table : Table} (good : ProperTable table) where
  pub calm_one : CalmBelow table 1
  calm_one u h = omega (arith, all_demands_zero good, all_demands_mono table u 0 (omega arith))

  pub calm_more : (t : ℕ) → CalmBelow table t → all_demands table t ≤ t → CalmBelow table (suc t)
  calm_more t calm here u h =
      elim (lt_or_last u t h) [ inl less ↦ calm u less | inr last ↦ omega (arith, ap (all_demands table) last) ]

  -- where w closes, the demand at t is at most w more than the demand at t - w
  calm_from : (w : ℕ) → 1 ≤ w → all_work table w ≤ w → CalmBelow table w → (k t : ℕ) → t ≤ k → all_demands table t ≤ t
  calm_from w some closed calm zero t h = calm t (omega arith)
  calm_from w some closed calm (suc k) t h =
      let shorter = calm_from w some closed calm k (t - w) (omega arith) in
      elim (lt_or_le t w) [
        | inl less ↦ calm t less
        | inr more ↦
            omega (arith, all_demands_mono table t (w + (t - w)) (omega arith), all_demands_split good w (t - w))
      ]

  pub calm_always : (w : ℕ) → 1 ≤ w → all_work table w ≤ w → CalmBelow table w → (t : ℕ) → all_demands table t ≤ t
  calm_always w some closed calm t = calm_from w some closed calm t t (le_refl t)
