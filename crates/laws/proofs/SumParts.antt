-- Two sums compared part by part.
-- Assumes nothing.
use mathlib.Core.Path.{◌≡◌, refl, sym, ap, ◌∙◌}
use mathlib.Core.Logic.{inl, inr}
use Prim.Native.Nat.{ℕ, zero, suc, ◌+◌, ◌≤◌, ◌<◌}
use native.Mathlib.Nat.{le_refl, le_step}
use native.Mathlib.Omega.{arith}
use Rattle.laws.specs.Sums.{sum}
use Rattle.laws.proofs.Cases.{lt_or_le, lt_or_last, below_suc}
use Rattle.laws.proofs.SumLaws.{sum_zero, sum_suc, sum_mono, sum_cong, sum_none, sum_longer}

-- one summand is larger by x, the others are the same
pub sum_raised : (n k x : ℕ) (f g : ℕ → ℕ) → k < n → g k ≡ f k + x
    → ((i : ℕ) → i < n → (i ≡ k → ⊥) → g i ≡ f i) → sum n g ≡ sum n f + x
unfolding sum
sum_raised zero k x f g inside raised others = absurd (omega arith)
sum_raised (suc n) k x f g inside raised others =
    elim (lt_or_last k n inside) [
      | inl less ↦
          let so_far = sum_raised n k x f g less raised (λ i below. others i (omega arith)) in
          omega (arith, others n (omega arith) (λ here. omega arith))
      | inr last ↦
          let before = sum_cong n g f (λ i below. others i (omega arith) (λ here. omega arith)) in
          omega (arith, ap f last, ap g last)
    ]

-- two sums are equal only if each part is, where no part is the larger in the one
pub sum_tight : (n : ℕ) (f g : ℕ → ℕ) → ((k : ℕ) → k < n → f k ≤ g k) → sum n f ≡ sum n g
    → (k : ℕ) → k < n → f k ≡ g k
sum_tight zero f g most same = λ k less. absurd (omega arith)
sum_tight (suc n) f g most same =
    below_suc (λ k. f k ≡ g k) n (sum_tight n f g before (omega (arith, parts, here, sum_mono n f g before)))
    (omega (arith, parts, here, sum_mono n f g before))
  where
    before : (k : ℕ) → k < n → f k ≤ g k
    before k less = most k (omega arith)

    here : f n ≤ g n
    here = most n (omega arith)

    parts : sum n f + f n ≡ sum n g + g n
    parts = sym (sum_suc n f) ∙ same ∙ sum_suc n g

-- a summand is at most the sum
pub sum_has : (n : ℕ) (f : ℕ → ℕ) (k : ℕ) → k < n → f k ≤ sum n f
sum_has n f k inside = omega (arith, sum_suc k f, sum_longer (suc k) n f inside)

-- a sum is less where one summand is and none is larger
pub sum_less : (n b : ℕ) (f g : ℕ → ℕ) → b < n → f b < g b → ((k : ℕ) → k < n → f k ≤ g k) → sum n f < sum n g
sum_less n b f g inside less most =
    elim (lt_or_le (sum n f) (sum n g)) [
      | inl fewer ↦ fewer
      | inr same ↦
          absurd (omega (arith, sum_tight n f g most (omega (arith, sum_mono n f g most)) b inside))
    ]

-- a place at which g is the larger
pub record Larger (n : ℕ) (f g : ℕ → ℕ) : Type 0 where
  pub place : ℕ
  pub inside : place < n
  pub more : f place < g place

-- a larger sum has a larger summand
pub sum_larger : (n : ℕ) (f g : ℕ → ℕ) → sum n f < sum n g → Larger n f g
sum_larger zero f g more = absurd (omega (arith, sum_zero f, sum_zero g))
sum_larger (suc n) f g more =
    elim (lt_or_le (f n) (g n)) [
      | inl here ↦ record { place = n; inside = le_refl (suc n); more = here }
      | inr most ↦
          let below = sum_larger n f g (omega (arith, sum_suc n f, sum_suc n g)) in
          record { place = below.place; inside = le_step below.inside; more = below.more }
    ]

-- and one that is not 0 has one that is not 0
pub sum_some : (n : ℕ) (f : ℕ → ℕ) → 0 < sum n f → Larger n (λ k. 0) f
sum_some n f some = sum_larger n (λ k. 0) f (omega (arith, sum_none n (λ k. 0) (λ k inside. refl)))
