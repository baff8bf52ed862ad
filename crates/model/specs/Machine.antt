-- The machine on jobs, over any order of them: document 01, "The replay bench".
-- Assumes nothing.
use Rattle.std.specs.Prelude.{Bool, true, false, cond, ◌&&◌, ◌||◌, ◌≡◌, ℕ, zero, suc, ◌-◌, leb, ltb, eqb}
use Rattle.laws.specs.Sums.{only}
use Rattle.laws.specs.Search.{Found, at, nowhere}
use Rattle.model.specs.Jobs.{Jobs}

-- whether the one job goes before the other, by their numbers
abbrev pub Order : Type 0
Order = ℕ → ℕ → Bool

-- what an order must keep to for the first in it to mean something
pub record Strict (before : Order) : Type 0 where
  pub irreflexive : (i : ℕ) → before i i ≡ false
  pub transitive : (i j k : ℕ) → before i j ≡ true → before j k ≡ true → before i k ≡ true

-- the smaller first; where they are equal, what else decides
abbrev pub first_by : ℕ → ℕ → Bool → Bool
first_by x y rest = ltb x y || (eqb x y && rest)

-- "the earliest deadline, ties by lower task, then earlier arrival"
unfoldable pub sooner : Jobs → Order
sooner jobs i j =
    first_by (jobs.due i) (jobs.due j)
    (first_by (jobs.task i) (jobs.task j) (ltb (jobs.arrive i) (jobs.arrive j)))

-- n against the first of those below it
abbrev pub first_of : Order → ℕ → Found → Found
first_of before n (at b) = cond (before n b) (at n) (at b)
first_of before n nowhere = at n

-- the first in the order of those below n that pass the test; the lower number where neither goes before the other
unfoldable pub pick : (ℕ → Bool) → Order → ℕ → Found
pick test before zero = nowhere
pick test before (suc n) =
    elim (test n) [ true ↦ first_of before n (pick test before n) | false ↦ pick test before n ]

-- "arrived, unfinished"
abbrev pub ready : Jobs → ℕ → (ℕ → ℕ) → ℕ → Bool
ready jobs t left k = leb (jobs.release k) t && ltb 0 (left k)

abbrev pub chosen : Jobs → Order → ℕ → (ℕ → ℕ) → Found
chosen jobs before t left = pick (ready jobs t left) before jobs.count

-- "one unit goes to" the chosen job; "with none, the tick is idle"
abbrev pub give : Found → (ℕ → ℕ) → ℕ → ℕ
give (at b) left k = left k - only (eqb b k) 1
give nowhere left k = left k

-- what each job has left before tick t
unfoldable pub left_at : Jobs → Order → ℕ → ℕ → ℕ
left_at jobs before zero k = jobs.amount k
left_at jobs before (suc t) k = give (chosen jobs before t (left_at jobs before t)) (left_at jobs before t) k
