-- Orders of jobs: that the order of document 01, "the earliest deadline, ties by lower task, then earlier arrival", is
-- strict, as an order must be for the machine's choice to mean something.
-- Assumes nothing.
use mathlib.Core.Path.{◌≡◌, refl, sym, ◌∙◌}
use mathlib.Core.Logic.{◌⊎◌, inl, inr}
use mathlib.Core.Bool.{Bool, true, false, true≢false, false≢true}
use Prim.Native.Nat.{ℕ, ◌≤◌, ◌<◌}
use native.Mathlib.Omega.{arith}
use native.Mathlib.Nat.{le_refl, lt_trans, lt_of_lt_of_le}
use lib.Dec.{ltb}
use borrow.Author.Tests.{ltb-true, lt-ltb, le-ltb, eq-eqb, ne_eqb}
use Rattle.laws.proofs.Cases.{lt_or_le}
use Rattle.model.specs.Jobs.{Jobs}
use Rattle.model.specs.Machine.{Order, Strict, first_by, sooner}

-- ---- the smaller first

-- how two numbers compare
pub data Compared (x y : ℕ) : Type 0 where
  below : x < y → Compared x y
  equal : x ≡ y → Compared x y
  above : y < x → Compared x y

pub compare : (x y : ℕ) → Compared x y
compare x y =
    elim (lt_or_le x y) [
      | inl less ↦ below less
      | inr least ↦ elim (lt_or_le y x) [ inl more ↦ above more | inr most ↦ equal (omega arith) ]
    ]

module _ (x y : ℕ) (rest : Bool) where
  first_by_less : x < y → first_by x y rest ≡ true
  first_by_less less = rw (lt-ltb x y less)

  first_by_same : x ≡ y → first_by x y rest ≡ rest
  first_by_same same = rw (le-ltb x y (omega arith), eq-eqb x y same)

  first_by_more : y < x → first_by x y rest ≡ false
  first_by_more more = rw (le-ltb x y (omega arith), ne_eqb x y (λ same. omega arith))

  first_by_true : first_by x y rest ≡ true → (x < y) ⊎ ((x ≡ y) × (rest ≡ true))
  first_by_true passes =
      elim (compare x y) [
        | below less ↦ inl less
        | equal same ↦ inr (same, sym (first_by_same same) ∙ passes)
        | above more ↦ absurd (false≢true (sym (first_by_more more) ∙ passes))
      ]

  first_by_most : first_by x y rest ≡ true → x ≤ y
  first_by_most passes = elim (first_by_true passes) [ inl less ↦ omega arith | inr tie ↦ omega (arith, tie.0) ]

  first_by_least : first_by x y rest ≡ false → y ≤ x
  first_by_least fails =
      elim (lt_or_le x y) [ inl less ↦ absurd (true≢false (sym (first_by_less less) ∙ fails)) | inr least ↦ least ]

module _ (key : ℕ → ℕ) {rest : Order} (by_rest : Strict rest) where
  by_key : Order
  by_key i j = first_by (key i) (key j) (rest i j)

  first_by_transitive : (i j k : ℕ) → by_key i j ≡ true → by_key j k ≡ true → by_key i k ≡ true
  unfolding by_key
  first_by_transitive i j k one two =
      elim (first_by_true (key i) (key j) (rest i j) one) [
        | inl less ↦ first_by_less (key i) (key k) (rest i k)
            (lt_of_lt_of_le less (first_by_most (key j) (key k) (rest j k) two))
        | inr tie ↦ elim (first_by_true (key j) (key k) (rest j k) two) [
          | inl less ↦ first_by_less (key i) (key k) (rest i k) (omega (arith, tie.0))
          | inr next ↦ first_by_same (key i) (key k) (rest i k) (tie.0 ∙ next.0)
              ∙ by_rest.transitive i j k tie.1 next.1
        ]
      ]

  -- an order by a key, and where the key is the same by another order
  first_by_strict : Strict (λ i j. first_by (key i) (key j) (rest i j))
  unfolding by_key
  first_by_strict =
      record {
        irreflexive = λ i. first_by_same (key i) (key i) (rest i i) refl ∙ by_rest.irreflexive i;
        transitive = first_by_transitive;
      }

-- the order by a key alone
pub key_strict : (key : ℕ → ℕ) → Strict (λ i j. ltb (key i) (key j))
key_strict key =
    record {
      irreflexive = λ i. le-ltb (key i) (key i) (le_refl (key i));
      transitive =
          λ i j k one two.
          lt-ltb (key i) (key k) (lt_trans (ltb-true (key i) (key j) one) (ltb-true (key j) (key k) two));
    }

-- ---- the order of the document

module _ (jobs : Jobs) where
  pub sooner_strict : Strict (sooner jobs)
  unfolding sooner
  sooner_strict = first_by_strict jobs.due (first_by_strict jobs.task (key_strict jobs.arrive))

  -- "the earliest deadline": a job that another does not go before is due no later
  pub not_sooner_due : (i j : ℕ) → sooner jobs i j ≡ false → jobs.due j ≤ jobs.due i
  unfolding sooner
  not_sooner_due i j =
      first_by_least (jobs.due i) (jobs.due j)
      (first_by (jobs.task i) (jobs.task j) (ltb (jobs.arrive i) (jobs.arrive j)))
