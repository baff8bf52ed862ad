-- A sum of sums, the other way round.
-- Assumes nothing.
use mathlib.Core.Path.{◌≡◌, sym, ◌∙◌}
use Prim.Native.Nat.{ℕ, zero, suc, ◌+◌}
use native.Mathlib.Omega.{arith}
use Rattle.laws.specs.Sums.{sum}
use Rattle.laws.proofs.SumLaws.{sum_zero, sum_suc, sum_none, sum_cong, sum_+}

pub sum_swap : (n m : ℕ) (f : ℕ → ℕ → ℕ) → sum n (λ k. sum m (f k)) ≡ sum m (λ t. sum n (λ k. f k t))
sum_swap zero m f = sum_zero _ ∙ sym (sum_none m _ (λ t below. sum_zero (λ k. f k t)))
sum_swap (suc n) m f =
    omega (
      arith,
      sum_suc n (λ k. sum m (f k)),
      sum_swap n m f,
      sum_+ m (λ t. sum n (λ k. f k t)) (f n),
      sum_cong m (λ t. sum (suc n) (λ k. f k t)) (λ t. sum n (λ k. f k t) + f n t)
          (λ t below. sum_suc n (λ k. f k t)),
    )
