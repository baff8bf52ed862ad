-- Laws of `pick`: one number more is tried, and what is picked is among the numbers that were tried.
-- Assumes nothing.
use mathlib.Core.Bool.{Bool, true, false, cond}
use mathlib.Core.Path.{◌≡◌, refl, ◌∙◌, ap, subst}
use Prim.Native.Nat.{ℕ, zero, suc, ◌<◌}
use native.Mathlib.Omega.{arith}
use Rattle.laws.specs.Search.{Found, at, nowhere}
use Rattle.laws.proofs.LeastByKey.{FromBelow}
use Rattle.model.specs.Machine.{Order, first_of, pick}

module _ (test : ℕ → Bool) (before : Order) where
  pub pick_start : pick test before 0 ≡ nowhere
  unfolding pick
  pick_start = refl

  -- ---- one number more

  pub pick_skips : (n : ℕ) → test n ≡ false → pick test before (suc n) ≡ pick test before n
  unfolding pick
  pick_skips n fails = rw (fails, pick)

  pub pick_tries : (n : ℕ) → test n ≡ true → pick test before (suc n) ≡ first_of before n (pick test before n)
  unfolding pick
  pick_tries n passes = rw (passes, pick)

  pub pick_first : (n : ℕ) → test n ≡ true → pick test before n ≡ nowhere → pick test before (suc n) ≡ at n
  pick_first n passes none = pick_tries n passes ∙ ap (first_of before n) none

  module _ (n b : ℕ) (passes : test n ≡ true) (best : pick test before n ≡ at b) where
    pub pick_wins : before n b ≡ true → pick test before (suc n) ≡ at n
    pick_wins sooner = pick_tries n passes ∙ ap (first_of before n) best ∙ ap (λ t. cond t (at n) (at b)) sooner

    pub pick_keeps : before n b ≡ false → pick test before (suc n) ≡ at b
    pick_keeps later = pick_tries n passes ∙ ap (first_of before n) best ∙ ap (λ t. cond t (at n) (at b)) later

  pub picked_from_below : FromBelow test before (pick test before)
  picked_from_below =
      record { start = pick_start; skips = pick_skips; first = pick_first; wins = pick_wins; keeps = pick_keeps }

  -- ---- what is picked passes, and is below the end

  pub record Passing (n b : ℕ) : Type 0 where
    pub below : b < n
    pub passes : test b ≡ true

  abbrev Right : ℕ → Found → Type 0
  Right n (at b) = Passing n b
  Right n nowhere = Unit {0}

  longer : (n : ℕ) (r : Found) → Right n r → Right (suc n) r
  longer n (at b) picked = record { below = omega (arith, picked.below); passes = picked.passes }
  longer n nowhere none = tt

  contest : (n : ℕ) → test n ≡ true → (r : Found) → Right n r → Right (suc n) (first_of before n r)
  contest n passes (at b) picked = which (before n b)
    where
      which : (t : Bool) → Right (suc n) (cond t (at n) (at b))
      which true = record { below = omega arith; passes = passes }
      which false = longer n (at b) picked
  contest n passes nowhere none = record { below = omega arith; passes = passes }

  right : (n : ℕ) → Right n (pick test before n)
  unfolding pick
  right zero = tt
  right (suc n) = which (test n) refl (right n)
    where
      which : (t : Bool) → test n ≡ t → Right n (pick test before n) → Right (suc n) (pick test before (suc n))
      which true passes rest = rw (pick_tries n passes) (contest n passes (pick test before n) rest)
      which false fails rest = rw (pick_skips n fails) (longer n (pick test before n) rest)

  pub pick_is : (n b : ℕ) → pick test before n ≡ at b → Passing n b
  pick_is n b found = subst (Right n) found (right n)

  pub pick_below : (n b : ℕ) → pick test before n ≡ at b → b < n
  pick_below n b found = (pick_is n b found).below
