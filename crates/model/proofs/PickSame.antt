-- Choices that are the same: a choice depends on nothing but the numbers it is made from, and numbers that fail change
-- nothing.
-- Assumes nothing.
use mathlib.Core.Path.{◌≡◌, refl, sym, ◌∙◌, ap}
use mathlib.Core.Bool.{Bool, true, false}
use Prim.Native.Nat.{ℕ, zero, suc, ◌≤◌, ◌<◌}
use native.Mathlib.Nat.{le_refl, le_step}
use Rattle.laws.specs.Search.{Found, at, nowhere}
use Rattle.laws.proofs.Falling.{steady}
use Rattle.model.specs.Machine.{Order, first_of, pick}
use Rattle.model.proofs.PickLaws.{pick_start, pick_skips, pick_tries, pick_below}

module _ (test : ℕ → Bool) (before : Order) where
  -- numbers that fail change nothing
  pub pick_longer : (n m : ℕ) → n ≤ m → ((k : ℕ) → n ≤ k → k < m → test k ≡ false)
      → pick test before m ≡ pick test before n
  pick_longer n m longer fail =
      steady (pick test before) n m longer (λ k low high. pick_skips test before k (fail k low high))

-- two tests and two orders that agree below n
pub record Agree (test other : ℕ → Bool) (before after : Order) (n : ℕ) : Type 0 where
  pub tests : (k : ℕ) → k < n → test k ≡ other k
  pub orders : (i j : ℕ) → i < n → j < n → before i j ≡ after i j

module _ {test other : ℕ → Bool} {before after : Order} where
  agree_less : (n : ℕ) → Agree test other before after (suc n) → Agree test other before after n
  agree_less n agree =
      record {
        tests = λ k less. agree.tests k (le_step less);
        orders = λ i j less fewer. agree.orders i j (le_step less) (le_step fewer);
      }

  first_of_cong : (n : ℕ) (r : Found) → pick test before n ≡ r → Agree test other before after (suc n)
      → first_of before n r ≡ first_of after n r
  first_of_cong n nowhere found agree = refl
  first_of_cong n (at b) found agree =
      rw (agree.orders n b (le_refl (suc n)) (le_step (pick_below test before n b found)))

  pub pick_cong : (n : ℕ) → Agree test other before after n → pick test before n ≡ pick other after n
  pick_cong zero agree = pick_start test before ∙ sym (pick_start other after)
  pick_cong (suc n) agree = which (test n) refl (pick_cong n (agree_less n agree))
    where
      here : test n ≡ other n
      here = agree.tests n (le_refl (suc n))

      which : (x : Bool) → test n ≡ x → pick test before n ≡ pick other after n
          → pick test before (suc n) ≡ pick other after (suc n)
      which true passes so_far =
          pick_tries test before n passes
          ∙ first_of_cong n (pick test before n) refl agree
          ∙ ap (first_of after n) so_far
          ∙ sym (pick_tries other after n (sym here ∙ passes))
      which false fails so_far =
          pick_skips test before n fails ∙ so_far ∙ sym (pick_skips other after n (sym here ∙ fails))
