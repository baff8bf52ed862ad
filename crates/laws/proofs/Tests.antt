-- A test that is true exactly where a rule is broken, built up as tests are: from comparisons by `||`, `&&` and `not`.
-- Assumes nothing.
use mathlib.Core.Bool.{Bool, true, false, not, ◌&&◌, ◌||◌, true≢false, false≢true}
use mathlib.Core.Path.{◌≡◌, refl}
use mathlib.Core.Logic.{◌⊎◌, inl, inr}
use Prim.Native.Nat.{ℕ, ◌≤◌, ◌<◌}
use native.Mathlib.Omega.{arith}
use lib.Dec.{ltb, leb, eqb}
use borrow.Author.Tests.{ltb-true, ltb-false, leb-true, leb-false, eqb-true, eqb-false, not-true, not-false}

pub record Catches (test : Bool) (rule : Type 0) : Type 0 where
  pub passed : test ≡ false → rule
  pub caught : test ≡ true → rule → ⊥

-- ---- from the rule to the test

module _ {test : Bool} {rule : Type 0} (by : Catches test rule) where
  pub rule_kept : rule → test ≡ false
  rule_kept holds = which test refl
    where
      which : (t : Bool) → test ≡ t → test ≡ false
      which true e = absurd (by.caught e holds)
      which false e = e

  pub rule_broken : (rule → ⊥) → test ≡ true
  rule_broken fails = which test refl
    where
      which : (t : Bool) → test ≡ t → test ≡ true
      which true e = e
      which false e = absurd (fails (by.passed e))

-- the same rule in other words
pub catches_as : {test : Bool} {P Q : Type 0} → (P → Q) → (Q → P) → Catches test P → Catches test Q
catches_as there back by = record { passed = λ e. there (by.passed e); caught = λ e holds. by.caught e (back holds) }

-- ---- comparisons

module _ (a b : ℕ) where
  pub catches_lt : Catches (ltb a b) (b ≤ a)
  catches_lt = record { passed = ltb-false a b; caught = λ e holds. omega (arith, ltb-true a b e) }

  pub catches_le : Catches (leb a b) (b < a)
  catches_le = record { passed = leb-false a b; caught = λ e holds. omega (arith, leb-true a b e) }

  pub catches_eq : Catches (eqb a b) (a ≡ b → ⊥)
  catches_eq = record { passed = eqb-false a b; caught = λ e differs. differs (eqb-true a b e) }

  pub catches_ne : Catches (not (eqb a b)) (a ≡ b)
  catches_ne =
      record {
        passed = λ e. eqb-true a b (not-false (eqb a b) e);
        caught = λ e same. eqb-false a b (not-true (eqb a b) e) same;
      }

-- neither of two equations
pub catches_neither : (a b c d : ℕ) → Catches (not (eqb a b || eqb c d)) ((a ≡ b) ⊎ (c ≡ d))
catches_neither a b c d = which (eqb a b) (eqb c d) refl refl
  where
    which : (x y : Bool) → eqb a b ≡ x → eqb c d ≡ y → Catches (not (x || y)) ((a ≡ b) ⊎ (c ≡ d))
    which true y ex ey = record { passed = λ e. inl (eqb-true a b ex); caught = λ e. absurd (false≢true e) }
    which false true ex ey = record { passed = λ e. inr (eqb-true c d ey); caught = λ e. absurd (false≢true e) }
    which false false ex ey =
        record {
          passed = λ e. absurd (true≢false e);
          caught = λ e holds. elim holds [ inl same ↦ eqb-false a b ex same | inr same ↦ eqb-false c d ey same ];
        }

-- ---- tests put together

-- one rule and another
pub catches_or : {first second : Bool} {P Q : Type 0} → Catches first P → Catches second Q →
    Catches (first || second) (P × Q)
catches_or {first = true} one other =
    record { passed = λ e. absurd (true≢false e); caught = λ e holds. one.caught refl holds.0 }
catches_or {first = false} one other =
    record { passed = λ e. (one.passed refl, other.passed e); caught = λ e holds. other.caught e holds.1 }

-- a rule that binds only where a guard says so
catches_given : {guard test : Bool} {fact P : Type 0} → (guard ≡ true → fact) → (guard ≡ false → fact → ⊥) →
    Catches test P → Catches (guard && test) (fact → P)
catches_given {guard = true} holds fails by =
    record { passed = λ e given. by.passed e; caught = λ e rule. by.caught e (rule (holds refl)) }
catches_given {guard = false} holds fails by =
    record { passed = λ e given. absurd (fails refl given); caught = λ e. absurd (false≢true e) }

module _ (a b : ℕ) {test : Bool} {P : Type 0} (by : Catches test P) where
  -- where two numbers agree
  pub catches_when : Catches (eqb a b && test) (a ≡ b → P)
  catches_when = catches_given (eqb-true a b) (eqb-false a b) by
