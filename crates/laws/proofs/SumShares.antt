-- A sum over numbers that are each of one of n kinds is the sum of the kinds' own sums.
-- Assumes nothing.
use mathlib.Core.Path.{◌≡◌, refl, sym, ◌∙◌}
use Prim.Native.Nat.{ℕ, ◌<◌}
use native.Mathlib.Omega.{arith}
use lib.Dec.{eqb}
use borrow.Author.Tests.{eq-eqb, ne_eqb}
use Rattle.laws.specs.Sums.{sum, only}
use Rattle.laws.proofs.SumLaws.{sum_none, sum_cong}
use Rattle.laws.proofs.SumParts.{sum_raised}
use Rattle.laws.proofs.SumSwap.{sum_swap}

-- among 0, .., n - 1 each number comes once
pub sum_one : (n k : ℕ) (f : ℕ → ℕ) → k < n → sum n (λ i. only (eqb k i) (f i)) ≡ f k
sum_one n k f inside =
    omega (
      arith,
      sum_raised n k (f k) (λ i. 0) (λ i. only (eqb k i) (f i)) inside (rw (eq-eqb k k refl) (omega arith))
          (λ i less other. rw (ne_eqb k i (λ same. other (sym same)))),
      sum_none n (λ i. 0) (λ i less. refl),
    )

-- what number j adds may go by its kind k
pub sum_shares : (n i : ℕ) (kind : ℕ → ℕ) (f : ℕ → ℕ → ℕ) → ((j : ℕ) → j < i → kind j < n)
    → sum n (λ k. sum i (λ j. only (eqb (kind j) k) (f k j))) ≡ sum i (λ j. f (kind j) j)
sum_shares n i kind f known =
    sum_swap n i (λ k j. only (eqb (kind j) k) (f k j))
    ∙ sum_cong i (λ j. sum n (λ k. only (eqb (kind j) k) (f k j))) (λ j. f (kind j) j)
    (λ j less. sum_one n (kind j) (λ k. f k j) (known j less))
