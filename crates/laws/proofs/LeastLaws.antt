-- The first place of the least value.
-- Assumes nothing.
use mathlib.Core.Bool.{Bool, true, false, cond}
use mathlib.Core.Path.{◌≡◌, refl, sym, ◌∙◌, ap, subst}
use mathlib.Core.Logic.{inl, inr}
use Prim.Native.Nat.{ℕ, zero, suc, ◌≤◌, ◌<◌, min}
use native.Mathlib.Omega.{arith}
use native.Mathlib.Nat.{le_of_lt, min-eq_left, min-eq_right}
use lib.Dec.{ltb}
use borrow.Author.Tests.{lt-ltb, le-ltb}
use lib.IntN.{ℤ, pos}
use lib.Signed.{lt_z, ◌≤ℤ◌, ◌<ℤ◌, ≤ℤ_refl, <ℤ-≤ℤ_trans, clash_ℤ}
use Rattle.laws.specs.Search.{first_least}
use Rattle.laws.proofs.Cases.{lt_or_le}
use Rattle.laws.proofs.SignedOrder.{lt_test, le_test, lt_le}

one_either : (b : Bool) → ◌≡◌ {A = ℕ} (cond b 1 1) 1
one_either true = refl
one_either false = refl

next_is : (n u : ℕ) → n < u → u ≤ suc n → suc n ≡ u
next_is n u past most = omega arith

-- i is the first of 1, .., n at which f is least
pub record FirstLeast (f : ℕ → ℤ) (n i : ℕ) : Type 0 where
  pub from : 1 ≤ i
  pub within : i ≤ n
  pub least : (u : ℕ) → 1 ≤ u → u ≤ n → f i ≤ℤ f u
  pub first : (u : ℕ) → 1 ≤ u → u < i → f i <ℤ f u

module _ (f : ℕ → ℤ) where
  -- a further place is lower, or is not
  further : (n i : ℕ) → FirstLeast f n i → f (suc n) <ℤ f i → FirstLeast f (suc n) (suc n)
  further n i l lower =
      record { from = omega arith; within = omega arith; least = at_most; first = λ u h k. below u h (omega arith) }
    where
      below : (u : ℕ) → 1 ≤ u → u ≤ n → f (suc n) <ℤ f u
      below u h k = <ℤ-≤ℤ_trans lower (l.least u h k)

      at_most : (u : ℕ) → 1 ≤ u → u ≤ suc n → f (suc n) ≤ℤ f u
      at_most u h k =
          elim (lt_or_le n u) [
            | inl last ↦ subst (λ (v : ℕ). f (suc n) ≤ℤ f v) (next_is n u last k) (≤ℤ_refl (f (suc n)))
            | inr before ↦ lt_le (f (suc n)) (f u) (below u h before)
          ]

  kept : (n i : ℕ) → FirstLeast f n i → f i ≤ℤ f (suc n) → FirstLeast f (suc n) i
  kept n i l higher =
      record { from = l.from; within = omega (arith, l.within); least = at_most; first = l.first }
    where
      at_most : (u : ℕ) → 1 ≤ u → u ≤ suc n → f i ≤ℤ f u
      at_most u h k =
          elim (lt_or_le n u)
          [ inl last ↦ subst (λ (v : ℕ). f i ≤ℤ f v) (next_is n u last k) higher | inr before ↦ l.least u h before ]

  first_least_one : first_least f 1 ≡ 1
  unfolding first_least
  first_least_one = one_either (lt_z (f 1) (f 1))

  alone : FirstLeast f 1 1
  alone =
      record {
        from = omega arith;
        within = omega arith;
        least = λ u h k. subst (λ (v : ℕ). f 1 ≤ℤ f v) (same u h k) (≤ℤ_refl (f 1));
        first = λ u h k. absurd (omega arith);
      }
    where
      same : (u : ℕ) → 1 ≤ u → u ≤ 1 → 1 ≡ u
      same u h k = omega arith

  pub first_least_right : (n : ℕ) → FirstLeast f (suc n) (first_least f (suc n))
  unfolding first_least
  first_least_right zero = rw first_least_one alone
  first_least_right (suc n) = which (lt_z (f (suc (suc n))) (f (first_least f (suc n)))) refl (first_least_right n)
    where
      which : (b : Bool) → lt_z (f (suc (suc n))) (f (first_least f (suc n))) ≡ b
          → FirstLeast f (suc n) (first_least f (suc n))
          → FirstLeast f (suc (suc n)) (cond b (suc (suc n)) (first_least f (suc n)))
      which true e l = further (suc n) (first_least f (suc n)) l (lt_test _ _ e)
      which false e l = kept (suc n) (first_least f (suc n)) l (le_test _ _ e)

  -- there is one such place only
  pub first_least_one_only : (n i j : ℕ) → FirstLeast f n i → FirstLeast f n j → i ≡ j
  first_least_one_only n i j a b =
      elim (lt_or_le i j) [
        | inl less ↦ clash_ℤ (b.first i a.from less) (a.least j b.from b.within)
        | inr more ↦ elim (lt_or_le j i) [
          | inl less ↦ clash_ℤ (a.first j b.from less) (b.least i a.from a.within)
          | inr same ↦ omega arith
        ]
      ]

-- ---- a loop that tries f 1, f 2, .. , none of them below zero, and f 1 at most 1

-- after n of them: `at` is the first place of the least, and `low` that value; before the first both are 1
pub record LowSoFar (f : ℕ → ℤ) (n low at : ℕ) : Type 0 where
  pub at_is : at ≡ first_least f n
  pub low_is : 1 ≤ n → f at ≡ pos low
  pub fresh : n ≡ 0 → low ≡ 1

pub low_none : (f : ℕ → ℤ) → LowSoFar f 0 1 1
unfolding first_least
low_none f = record { at_is = refl; low_is = λ h. absurd (omega arith); fresh = λ e. refl }

low_first : {f : ℕ → ℤ} {low at v : ℕ} → LowSoFar f 0 low at → f 1 ≡ pos v → v ≤ 1
    → LowSoFar f 1 (min low v) (cond (ltb v low) 1 at)
unfolding first_least
low_first {f} {low} {at} {v} so_far here small =
    record {
      at_is = place ∙ sym (first_least_one f);
      low_is = λ h. ap f place ∙ here ∙ ap pos value;
      fresh = λ e. absurd (omega arith);
    }
  where
    place : cond (ltb v low) 1 at ≡ 1
    place = ap (cond (ltb v low) 1) so_far.at_is ∙ one_either (ltb v low)

    value : v ≡ min low v
    value = omega (arith, so_far.fresh refl)

low_next : {f : ℕ → ℤ} {n low at v : ℕ} → LowSoFar f n low at → 1 ≤ n → f (suc n) ≡ pos v
    → LowSoFar f (suc n) (min low v) (cond (ltb v low) (suc n) at)
unfolding first_least
low_next {f} {n} {low} {at} {v} so_far some here =
    record { at_is = place; low_is = λ h. value; fresh = λ e. absurd (omega arith) }
  where
    place : cond (ltb v low) (suc n) at ≡ first_least f (suc n)
    place = rw (← so_far.at_is, so_far.low_is some, here)

    value : f (cond (ltb v low) (suc n) at) ≡ pos (min low v)
    value =
        elim (lt_or_le v low) [
          | inl less ↦ rw (lt-ltb v low less, min-eq_right (le_of_lt less)) here
          | inr more ↦ rw (le-ltb v low more, min-eq_left more) (so_far.low_is some)
        ]

pub low_turn : {f : ℕ → ℤ} {n low at v : ℕ} → LowSoFar f n low at → f (suc n) ≡ pos v → (n ≡ 0 → v ≤ 1)
    → LowSoFar f (suc n) (min low v) (cond (ltb v low) (suc n) at)
low_turn {n = zero} so_far here small = low_first so_far here (small refl)
low_turn {n = suc n} so_far here small = low_next so_far (omega arith) here
