-- A test of every element of a list, as a table is tested by computing; and tests joined by `&&`.
-- Assumes nothing.
use mathlib.Core.Bool.{Bool, true, false, ◌&&◌, false≢true}
use mathlib.Core.Path.{◌≡◌, refl}
use mathlib.Core.List.{List, [], ◌∷◌}
use Prim.Native.Nat.{ℕ, suc, zero, ◌<◌}
use native.Mathlib.Nat.{le_of_suc-le-suc, not-suc-le-zero}
use lib.Dec.{T}
use lib.ListN.{length, get_or}

pub and_true_left : (a b : Bool) → (a && b) ≡ true → a ≡ true
and_true_left true b e = refl
and_true_left false b e = e

pub and_true_right : (a b : Bool) → (a && b) ≡ true → b ≡ true
and_true_right true b e = e
and_true_right false b e = absurd (false≢true e)

pub both_left : (a b : Bool) → T (a && b) → T a
both_left true b h = tt
both_left false b h = absurd h

pub both_right : (a b : Bool) → T (a && b) → T b
both_right true b h = h
both_right false b h = absurd h

-- a test of every element
unfoldable pub every : {A : Type 0} → (A → Bool) → List A → Bool
every test [] = true
every test (x ∷ l) = test x && every test l

pub every_at : {A : Type 0} (test : A → Bool) (l : List A) (d : A) → T (every test l) → (i : ℕ) → i < length l
    → T (test (get_or l i d))
unfolding every
every_at test [] d h i below = absurd (not-suc-le-zero below)
every_at test (x ∷ l) d h zero below = both_left (test x) (every test l) h
every_at test (x ∷ l) d h (suc i) below =
    every_at test l d (both_right (test x) (every test l) h) i (le_of_suc-le-suc below)
