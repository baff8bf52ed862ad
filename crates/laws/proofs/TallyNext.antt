-- Counting on: where the count grows there is one more that passes; and numbers below n, each counted with its equals.
-- Assumes nothing.
use mathlib.Core.Bool.{Bool, true, false}
use mathlib.Core.Path.{◌≡◌, refl, ◌∙◌}
use mathlib.Core.Logic.{inl, inr}
use Prim.Native.Nat.{ℕ, zero, suc, ◌≤◌, ◌<◌}
use native.Mathlib.Omega.{arith}
use lib.Dec.{eqb}
use borrow.Author.Tests.{ne_eqb}
use Rattle.laws.specs.Sums.{sum, only, tally}
use Rattle.laws.proofs.Cases.{lt_or_le}
use Rattle.laws.proofs.SumLaws.{sum_zero, sum_longer}
use Rattle.laws.proofs.SumShares.{sum_one, sum_shares}
use Rattle.laws.proofs.TallyLaws.{tally_passed, tally_failed, tally_all, tally_none}

-- the first from i on that passes, below n
pub record NextPassing (test : ℕ → Bool) (i n : ℕ) : Type 0 where
  pub place : ℕ
  pub from : i ≤ place
  pub below : place < n
  pub passes : test place ≡ true
  pub none : tally place test ≡ tally i test

module _ (test : ℕ → Bool) where
  next_last : (i n : ℕ) → tally i test < tally (suc n) test → tally n test ≤ tally i test → NextPassing test i (suc n)
  next_last i n more none = which (test n) refl
    where
      which : (t : Bool) → test n ≡ t → NextPassing test i (suc n)
      which false fails = absurd (omega (arith, tally_failed test n fails))
      which true passes =
          record {
            place = n;
            from = elim (lt_or_le n i) [
              | inl past ↦ absurd (omega (arith, sum_longer (suc n) i (λ j. only (test j) 1) past))
              | inr within ↦ within
            ];
            below = omega arith;
            passes = passes;
            none = omega (arith, tally_passed test n passes);
          }

  -- where the count grows there is one
  pub tally_next : (i n : ℕ) → tally i test < tally n test → NextPassing test i n
  tally_next i zero more = absurd (omega (arith, sum_zero (λ j. only (test j) 1)))
  tally_next i (suc n) more =
      elim (lt_or_le (tally i test) (tally n test)) [
        | inl sooner ↦
            let found = tally_next i n sooner in
            record {
              place = found.place;
              from = found.from;
              below = omega (arith, found.below);
              passes = found.passes;
              none = found.none;
            }
        | inr none ↦ next_last i n more none
      ]

-- ---- how often each number comes

-- among 0, .., n - 1 no number comes twice
pub tally_once : (n k : ℕ) → tally n (eqb k) ≤ 1
tally_once n k =
    elim (lt_or_le k n) [
      | inl below ↦ omega (arith, sum_one n k (λ j. 1) below)
      | inr past ↦ omega (arith, tally_none (eqb k) n (λ j less. ne_eqb k j (λ same. omega arith)))
    ]

-- of i numbers that are all below n, each is counted with its equals
pub tally_shares : (n i : ℕ) (f : ℕ → ℕ) → ((j : ℕ) → j < i → f j < n)
    → sum n (λ k. tally i (λ j. eqb (f j) k)) ≡ i
tally_shares n i f below = sum_shares n i f (λ k j. 1) below ∙ tally_all (λ j. true) i (λ j less. refl)
