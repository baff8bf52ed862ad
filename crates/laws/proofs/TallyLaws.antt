-- Counting: how many of 0, .., n - 1 pass a test.
-- Assumes nothing.
use mathlib.Core.Bool.{Bool, true, false, true≢false}
use mathlib.Core.Path.{◌≡◌, refl, sym, ap, ◌∙◌}
use mathlib.Core.Logic.{inl, inr}
use Prim.Native.Nat.{ℕ, zero, suc, ◌+◌, ◌-◌, ◌≤◌, ◌<◌}
use native.Mathlib.Omega.{arith}
use lib.Dec.{leb}
use borrow.Author.Tests.{le-leb, lt-leb}
use Rattle.laws.specs.Sums.{only, tally}
use Rattle.laws.proofs.Cases.{lt_or_le, lt_or_last}
use Rattle.laws.proofs.Falling.{steady}
use Rattle.laws.proofs.GateLaws.{only_most}
use Rattle.laws.proofs.SumLaws.{sum_suc, sum_zero, sum_none}

module _ (test : ℕ → Bool) where
  pub tally_most : (n : ℕ) → tally n test ≤ n
  tally_most zero = omega (arith, sum_zero (λ i. only (test i) 1))
  tally_most (suc n) = omega (arith, only_most (test n) 1, tally_most n, sum_suc n (λ i. only (test i) 1))

  pub tally_passed : (n : ℕ) → test n ≡ true → tally (suc n) test ≡ tally n test + 1
  tally_passed n e = sum_suc n (λ i. only (test i) 1) ∙ rw e

  pub tally_failed : (n : ℕ) → test n ≡ false → tally (suc n) test ≡ tally n test
  tally_failed n e = sum_suc n (λ i. only (test i) 1) ∙ rw e (omega arith)

  -- numbers that fail are not counted
  tally_longer : (n m : ℕ) → n ≤ m → ((j : ℕ) → n ≤ j → j < m → test j ≡ false) → tally m test ≡ tally n test
  tally_longer n m longer fail =
      let count : ℕ → ℕ = λ k. tally k test in steady count n m longer (λ j low high. tally_failed j (fail j low high))

  -- one that passes, and none after it
  pub tally_last : (n m : ℕ) → n < m → test n ≡ true → ((j : ℕ) → n < j → j < m → test j ≡ false)
      → tally m test ≡ tally n test + 1
  tally_last n m more passes fail = tally_longer (suc n) m more fail ∙ tally_passed n passes

  pub tally_all : (n : ℕ) → ((j : ℕ) → j < n → test j ≡ true) → tally n test ≡ n
  tally_all zero all = sum_zero (λ i. only (test i) 1)
  tally_all (suc n) all =
      omega (arith, tally_passed n (all n (omega arith)), tally_all n (λ j below. all j (omega arith)))

  pub tally_none : (n : ℕ) → ((j : ℕ) → j < n → test j ≡ false) → tally n test ≡ 0
  tally_none n none = sum_none n (λ i. only (test i) 1) (λ j below. rw (none j below))

-- the count is the place up to which a test passes
pub record UpTo (test : ℕ → Bool) (n place : ℕ) : Type 0 where
  pub below : (j : ℕ) → j < n → test j ≡ true → j < place
  pub passes : (j : ℕ) → j < n → j < place → test j ≡ true

module _ (test : ℕ → Bool) (n : ℕ) where
  place_passed : ((j : ℕ) → j ≤ n → test j ≡ true) → UpTo test (suc n) (tally (suc n) test)
  place_passed all =
      let whole = tally_all test (suc n) (λ j less. all j (omega arith)) in
      record { below = λ j within passes. omega arith; passes = λ j within less. all j (omega arith) }

  place_failed : test n ≡ false → UpTo test n (tally n test) → UpTo test (suc n) (tally (suc n) test)
  place_failed last rest =
      let same = tally_failed test n last in
      record {
        below = λ j within passes.
            elim (lt_or_last j n within) [
              | inl less ↦ omega (arith, rest.below j less passes)
              | inr here ↦ absurd (true≢false (sym passes ∙ ap test here ∙ last))
            ];
        passes = λ j within less. rest.passes j (omega (arith, tally_most test n)) (omega arith);
      }

-- a test that passes wherever it passes later on
pub tally_place : (test : ℕ → Bool) (n : ℕ) → ((i j : ℕ) → i ≤ j → j < n → test j ≡ true → test i ≡ true) →
    UpTo test n (tally n test)
tally_place test zero falls =
    record { below = λ j within. absurd (omega arith); passes = λ j within. absurd (omega arith) }
tally_place test (suc n) falls =
    which (test n) refl (tally_place test n (λ i j order within. falls i j order (omega arith)))
  where
    which : (t : Bool) → test n ≡ t → UpTo test n (tally n test) → UpTo test (suc n) (tally (suc n) test)
    which true last rest = place_passed test n (λ j order. falls j n order (omega arith) last)
    which false last rest = place_failed test n last rest

-- the numbers from a on
pub tally_from : (a b : ℕ) → tally b (leb a) ≡ b - a
tally_from a zero = omega (arith, sum_zero (λ t. only (leb a t) 1))
tally_from a (suc b) =
    elim (lt_or_le b a) [
      | inl less ↦ omega (arith, tally_from a b, tally_failed (leb a) b (lt-leb a b less))
      | inr within ↦ omega (arith, tally_from a b, tally_passed (leb a) b (le-leb a b within))
    ]
