-- The numbers below n that pass a test, by their turn: where each stands, that none is left out between two turns, and
-- a sum over them.
-- Assumes nothing.
use mathlib.Core.Bool.{Bool, true, false, ◌&&◌, cond}
use mathlib.Core.Path.{◌≡◌, refl, sym, ap, ◌∙◌}
use mathlib.Core.Logic.{inl, inr}
use Prim.Native.Nat.{ℕ, zero, suc, ◌+◌, ◌<◌}
use native.Mathlib.Numerals.{add-one}
use native.Mathlib.Omega.{arith}
use lib.Dec.{eqb}
use borrow.Author.Tests.{eq-eqb, ne_eqb}
use Rattle.laws.specs.Sums.{sum, only, tally}
use Rattle.laws.proofs.Cases.{lt_or_le, lt_or_last}
use Rattle.laws.proofs.SumLaws.{sum_zero, sum_suc, sum_cong, sum_longer}
use Rattle.laws.proofs.TallyLaws.{tally_passed, tally_failed}

-- the m-th, from 0, of the numbers below n that pass
unfoldable pub nth : (ℕ → Bool) → ℕ → ℕ → ℕ
nth test zero m = 0
nth test (suc n) m = cond (eqb (tally n test) m && test n) n (nth test n m)

-- the place of turn m: m others pass before it
pub record Turn (test : ℕ → Bool) (n m place : ℕ) : Type 0 where
  pub below : place < n
  pub passes : test place ≡ true
  pub before : tally place test ≡ m

module _ (test : ℕ → Bool) where
  -- ---- one number more

  -- it has the next turn if it passes
  nth_last : (n : ℕ) → test n ≡ true → nth test (suc n) (tally n test) ≡ n
  unfolding nth
  nth_last n passes = rw (eq-eqb (tally n test) (tally n test) refl, passes)

  -- the turns before it stay where they are
  nth_kept : (n m : ℕ) → m < tally n test → nth test (suc n) m ≡ nth test n m
  unfolding nth
  nth_kept n m sooner = rw (ne_eqb (tally n test) m (λ same. omega arith))

  -- ---- where each stands

  turn_kept : (n m : ℕ) → m < tally n test → Turn test n m (nth test n m) → Turn test (suc n) m (nth test (suc n) m)
  turn_kept n m sooner turn =
      rw (nth_kept n m sooner)
      (record { below = omega (arith, turn.below); passes = turn.passes; before = turn.before })

  turn_last : (n m : ℕ) → m ≡ tally n test → test n ≡ true → Turn test (suc n) m (nth test (suc n) m)
  turn_last n m last passes =
      rw (last, nth_last n passes) (record { below = omega arith; passes = passes; before = refl })

  pub nth_turn : (n m : ℕ) → m < tally n test → Turn test n m (nth test n m)
  nth_turn zero m inside = absurd (omega (arith, sum_zero (λ i. only (test i) 1)))
  nth_turn (suc n) m inside = which (test n) refl (nth_turn n m)
    where
      which : (t : Bool) → test n ≡ t → (m < tally n test → Turn test n m (nth test n m))
          → Turn test (suc n) m (nth test (suc n) m)
      which false fails sooner =
          let less : m < tally n test = omega (arith, tally_failed test n fails) in turn_kept n m less (sooner less)
      which true passes sooner =
          elim (lt_or_last m (tally n test) (omega (arith, tally_passed test n passes))) [
            | inl less ↦ turn_kept n m less (sooner less)
            | inr last ↦ turn_last n m last passes
          ]

  -- ---- two following turns

  module _ (n m : ℕ) (inside : suc m < tally n test) where
    this : Turn test n m (nth test n m)
    this = nth_turn n m (omega arith)

    next : Turn test n (suc m) (nth test n (suc m))
    next = nth_turn n (suc m) inside

    pub nth_rises : nth test n m < nth test n (suc m)
    nth_rises =
        elim (lt_or_le (nth test n m) (nth test n (suc m))) [
          | inl less ↦ less
          | inr more ↦
              absurd
              (omega (
                arith,
                this.before,
                next.before,
                sum_longer (nth test n (suc m)) (nth test n m) (λ i. only (test i) 1) more,
              ))
        ]

    pub nth_between : (j : ℕ) → nth test n m < j → j < nth test n (suc m) → test j ≡ true → ⊥
    nth_between j after before passes =
        omega (
          arith,
          this.before,
          next.before,
          tally_passed test (nth test n m) this.passes,
          tally_passed test j passes,
          sum_longer (suc (nth test n m)) j (λ i. only (test i) 1) after,
          sum_longer (suc j) (nth test n (suc m)) (λ i. only (test i) 1) before,
        )

  -- ---- the sum

  -- f of the first m turns, where the numbers below n have one
  abbrev by_turn : ℕ → (ℕ → ℕ) → ℕ → ℕ
  by_turn n f m = sum m (λ i. f (nth test n i))

  turns_kept : (n : ℕ) (f : ℕ → ℕ) → by_turn (suc n) f (tally n test) ≡ by_turn n f (tally n test)
  turns_kept n f =
      sum_cong (tally n test) (λ i. f (nth test (suc n) i)) (λ i. f (nth test n i)) (λ i less. ap f (nth_kept n i less))

  turns_more : (n : ℕ) (f : ℕ → ℕ)
      → by_turn (suc n) f (tally (suc n) test) ≡ by_turn n f (tally n test) + only (test n) (f n)
  turns_more n f = which (test n) refl
    where
      which : (t : Bool) → test n ≡ t
          → by_turn (suc n) f (tally (suc n) test) ≡ by_turn n f (tally n test) + only t (f n)
      which false fails = omega (arith, ap (by_turn (suc n) f) (tally_failed test n fails), turns_kept n f)
      which true passes =
          omega (
            arith,
            ap (by_turn (suc n) f) (tally_passed test n passes ∙ add-one (tally n test)),
            sum_suc (tally n test) (λ i. f (nth test (suc n) i)),
            turns_kept n f,
            ap f (nth_last n passes),
          )

  pub nth_sum : (n : ℕ) (f : ℕ → ℕ) → sum n (λ i. only (test i) (f i)) ≡ sum (tally n test) (λ m. f (nth test n m))
  nth_sum zero f = sum_zero _ ∙ sym (ap (by_turn 0 f) (sum_zero (λ i. only (test i) 1)) ∙ sum_zero _)
  nth_sum (suc n) f = omega (arith, sum_suc n (λ i. only (test i) (f i)), nth_sum n f, turns_more n f)
