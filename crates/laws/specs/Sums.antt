-- Sums over an index, a gate, the greatest value, and a list by its places.
-- Assumes nothing.
use Rattle.std.specs.Prelude.{Bool, true, false, List, [], ◌∷◌, ◌++◌, ℕ, zero, suc, ◌+◌, max}

-- f 0 + .. + f (n - 1)
unfoldable pub sum : ℕ → (ℕ → ℕ) → ℕ
sum zero f = 0
sum (suc n) f = sum n f + f n

-- x where the test passes, else 0
abbrev pub only : Bool → ℕ → ℕ
only true x = x
only false x = 0

-- how many of 0, .., n - 1 pass
abbrev pub tally : ℕ → (ℕ → Bool) → ℕ
tally n test = sum n (λ i. only (test i) 1)

-- the greatest of f 0, .., f (n - 1); 0 where n is 0
unfoldable pub greatest : ℕ → (ℕ → ℕ) → ℕ
greatest zero f = 0
greatest (suc n) f = max (greatest n f) (f n)

-- the list f 0, .., f (n - 1)
unfoldable pub tabulate : ℕ → (ℕ → ℕ) → List ℕ
tabulate zero f = []
tabulate (suc n) f = tabulate n f ++ (f n ∷ [])
