-- What `pick` answers: the first in the order of those that pass, and nothing exactly where none passes.
-- Assumes nothing.
use mathlib.Core.Path.{◌≡◌, refl, sym, ◌∙◌}
use mathlib.Core.Bool.{Bool, true, false, cond, false≢true}
use Prim.Native.Nat.{ℕ, zero, suc, ◌<◌}
use native.Mathlib.Omega.{arith}
use native.Mathlib.Nat.{le_refl, le_step}
use Rattle.laws.specs.Search.{Found, at, nowhere}
use Rattle.laws.proofs.Cases.{below_suc}
use Rattle.model.specs.Machine.{Order, Strict, first_of, pick}
use Rattle.model.proofs.PickLaws.{pick_start, pick_skips, pick_tries}

-- b passes, and none of those below n that pass goes before it
pub record First (test : ℕ → Bool) (before : Order) (n b : ℕ) : Type 0 where
  pub inside : b < n
  pub passes : test b ≡ true
  pub none_before : (j : ℕ) → j < n → test j ≡ true → before j b ≡ false

-- none below n passes
abbrev pub NoneBelow : (ℕ → Bool) → ℕ → Type 0
NoneBelow test n = (j : ℕ) → j < n → test j ≡ false

-- what a choice may answer
abbrev pub Picked : (ℕ → Bool) → Order → ℕ → Found → Type 0
Picked test before n (at b) = First test before n b
Picked test before n nowhere = NoneBelow test n

is_false : (x : Bool) → (x ≡ true → ⊥) → x ≡ false
is_false true never = absurd (never refl)
is_false false never = refl

module _ (test : ℕ → Bool) (before : Order) where
  -- ---- one number more: the first so far stays, or n takes its place

  first_stays : (n b : ℕ) → (test n ≡ true → before n b ≡ false) → First test before n b → First test before (suc n) b
  first_stays n b here so_far =
      record {
        inside = le_step so_far.inside;
        passes = so_far.passes;
        none_before = below_suc (λ j. test j ≡ true → before j b ≡ false) n so_far.none_before here;
      }

  first_new : Strict before → (n : ℕ) → test n ≡ true → ((j : ℕ) → j < n → test j ≡ true → before j n ≡ false)
      → First test before (suc n) n
  first_new strict n passes below =
      record {
        inside = le_refl (suc n);
        passes = passes;
        none_before =
            below_suc (λ j. test j ≡ true → before j n ≡ false) n below (λ same. strict.irreflexive n);
      }

  picked_skip : (n : ℕ) (r : Found) → test n ≡ false → Picked test before n r → Picked test before (suc n) r
  picked_skip n (at b) fails so_far = first_stays n b (λ passes. absurd (false≢true (sym fails ∙ passes))) so_far
  picked_skip n nowhere fails none = below_suc (λ j. test j ≡ false) n none fails

  picked_try : Strict before → (n : ℕ) (r : Found) → test n ≡ true → Picked test before n r
      → Picked test before (suc n) (first_of before n r)
  picked_try strict n nowhere passes none =
      first_new strict n passes (λ j less too. absurd (false≢true (sym (none j less) ∙ too)))
  picked_try strict n (at b) passes so_far = which (before n b) refl
    where
      -- what went before n would go before b
      below : before n b ≡ true → (j : ℕ) → j < n → test j ≡ true → before j n ≡ false
      below wins j less too =
          is_false (before j n) λ sooner.
          false≢true (sym (so_far.none_before j less too) ∙ strict.transitive j n b sooner wins)

      which : (x : Bool) → before n b ≡ x → Picked test before (suc n) (cond x (at n) (at b))
      which true wins = first_new strict n passes (below wins)
      which false after = first_stays n b (λ too. after) so_far

  pub pick_right : Strict before → (n : ℕ) → Picked test before n (pick test before n)
  pick_right strict zero = rw (pick_start test before) (λ j less. absurd (omega arith))
  pick_right strict (suc n) = which (test n) refl (pick_right strict n)
    where
      which : (x : Bool) → test n ≡ x → Picked test before n (pick test before n)
          → Picked test before (suc n) (pick test before (suc n))
      which true passes so_far =
          rw (pick_tries test before n passes) (picked_try strict n (pick test before n) passes so_far)
      which false fails so_far = rw (pick_skips test before n fails) (picked_skip n (pick test before n) fails so_far)
