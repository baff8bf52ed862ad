-- What `pick` answers in an order by a key: the least key of those that pass, and the lower number of equal keys.
-- Assumes nothing.
use mathlib.Core.Path.{◌≡◌, refl, sym, ◌∙◌}
use mathlib.Core.Bool.{Bool, true, false, cond, false≢true}
use Prim.Native.Nat.{ℕ, zero, suc, ◌≤◌, ◌<◌}
use native.Mathlib.Omega.{arith}
use lib.Dec.{ltb}
use borrow.Author.Tests.{ltb-true, ltb-false}
use Rattle.laws.specs.Search.{Found, at, nowhere}
use Rattle.model.specs.Machine.{Order, first_of, pick}
use Rattle.model.proofs.OrderLaws.{key_strict}
use Rattle.model.proofs.PickLaws.{pick_start, pick_skips, pick_tries}
use Rattle.model.proofs.PickRight.{NoneBelow, Picked, pick_right}

-- b passes, and of those below n that pass none has a lesser key, and none below b the same
pub record LeastKey (test : ℕ → Bool) (key : ℕ → ℕ) (n b : ℕ) : Type 0 where
  pub inside : b < n
  pub passes : test b ≡ true
  pub least : (j : ℕ) → j < n → test j ≡ true → key b ≤ key j
  pub lowest : (j : ℕ) → j < b → test j ≡ true → key b < key j

module _ (test : ℕ → Bool) (key : ℕ → ℕ) where
  abbrev by_key : Order
  by_key i j = ltb (key i) (key j)

  -- what a choice by the key may answer
  abbrev pub PickedLeast : ℕ → Found → Type 0
  PickedLeast n (at b) = LeastKey test key n b
  PickedLeast n nowhere = NoneBelow test n

  abbrev Lowest : Found → Type 0
  Lowest (at b) = (j : ℕ) → j < b → test j ≡ true → key b < key j
  Lowest nowhere = Unit {0}

  lowest_try : (n : ℕ) (r : Found) → Picked test by_key n r → Lowest r → Lowest (first_of by_key n r)
  lowest_try n nowhere none so_far = λ j less passes. absurd (false≢true (sym (none j less) ∙ passes))
  lowest_try n (at b) first so_far = which (by_key n b) refl
    where
      which : (x : Bool) → by_key n b ≡ x → Lowest (cond x (at n) (at b))
      which true wins = λ j less passes.
          omega (arith, ltb-true (key n) (key b) wins, ltb-false (key j) (key b) (first.none_before j less passes))
      which false after = so_far

  lowest : (n : ℕ) → Lowest (pick test by_key n)
  lowest zero = rw (pick_start test by_key) tt
  lowest (suc n) = which (test n) refl (lowest n)
    where
      which : (x : Bool) → test n ≡ x → Lowest (pick test by_key n) → Lowest (pick test by_key (suc n))
      which true passes so_far =
          rw (pick_tries test by_key n passes)
          (lowest_try n (pick test by_key n) (pick_right test by_key (key_strict key) n) so_far)
      which false fails so_far = rw (pick_skips test by_key n fails) so_far

  pub pick_least : (n : ℕ) → PickedLeast n (pick test by_key n)
  pick_least n = which (pick test by_key n) (pick_right test by_key (key_strict key) n) (lowest n)
    where
      which : (r : Found) → Picked test by_key n r → Lowest r → PickedLeast n r
      which nowhere none low = none
      which (at b) first low =
          record {
            inside = first.inside;
            passes = first.passes;
            least = λ j less passes. ltb-false (key j) (key b) (first.none_before j less passes);
            lowest = low;
          }
