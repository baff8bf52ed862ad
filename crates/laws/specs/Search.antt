-- The least number that passes a test, the greatest, and the first place of the least value and of the greatest.
-- Assumes nothing.
use Rattle.std.specs.Prelude.{Bool, true, false, cond, ℕ, zero, suc, eqb, ℤ, Option, Some, None}
use Rattle.std.specs.Int.Signed.{lt_z}
use Rattle.laws.specs.Sums.{greatest}

pub data Found : Type 0 where
  at : ℕ → Found
  nowhere : Found

-- the least of the `many` numbers from `start` on that passes
unfoldable pub least_from : (ℕ → Bool) → ℕ → ℕ → Found
least_from test zero start = nowhere
least_from test (suc many) start = elim (test start) [ true ↦ at start | false ↦ least_from test many (suc start) ]

-- the place that was found, or `other`
abbrev pub place_or : ℕ → Found → ℕ
place_or other (at i) = i
place_or other nowhere = other

-- the same as the code's value
abbrev pub option_of : Found → Option ℕ
option_of (at i) = Some i
option_of nowhere = None

-- how many of 0, 1, 2, .. go up to and including the last below n that passes; 0 where none passes
unfoldable pub up_to_last : (ℕ → Bool) → ℕ → ℕ
up_to_last test zero = 0
up_to_last test (suc n) = elim (test n) [ true ↦ suc n | false ↦ up_to_last test n ]

-- the first of 1, .., n at which f is least; 1 where n is 0
unfoldable pub first_least : (ℕ → ℤ) → ℕ → ℕ
first_least f zero = 1
first_least f (suc n) = cond (lt_z (f (suc n)) (f (first_least f n))) (suc n) (first_least f n)

-- the first of 0, .., n - 1 at which f is greatest; 0 where n is 0
abbrev pub first_greatest : (ℕ → ℕ) → ℕ → ℕ
first_greatest f n = place_or 0 (least_from (λ i. eqb (f i) (greatest n f)) n 0)
