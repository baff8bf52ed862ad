-- How a question is shown to be refused exactly: by what its answer tells, whichever answer it is. And what follows: of
-- a question that is answered no refusal is given.
-- Assumes nothing.
use Prim.Native.Nat.{ℕ}
use mathlib.Core.Path.{◌≡◌, refl, subst}
use native.Mathlib.Omega.{arith}
use Rattle.model.specs.Answer.{Answer, answered, refused}
use Rattle.promise.specs.Given.{Answered, Exactly}

-- a refusal tells that it is one of those that are given
pub exactly : {A : Type 0} (Told : Answer A → Type 0) {said : Answer A}
    → ((number index : ℕ) → Told (refused number index) → said ≡ refused number index) → Told said
    → Exactly (λ number index. Told (refused number index)) said
exactly Told {said} refuses told =
    record { refuses = refuses; only = λ number index is. subst Told is told; answers = which said refl }
  where
    which : (x : Answer _) → said ≡ x → ((number index : ℕ) → Told (refused number index) → ⊥) → Answered said
    which (answered value) is none = record { value = value; is = is }
    which (refused number index) is none = absurd (none number index (subst Told is told))

-- so where it is answered no refusal is given
pub answered_none : {A : Type 0} {Given : ℕ → ℕ → Type 0} {said : Answer A} → Exactly Given said
    → {value : A} → said ≡ answered value → (number index : ℕ) → Given number index → ⊥
answered_none exact is number index given =
    let apart : ◌≡◌ {A = ℕ} 0 1 = cc (exact.refuses number index given) in absurd (omega arith)

-- where nothing is to be told of an answer
abbrev pub GivenOnly : {A : Type 0} → (ℕ → ℕ → Type 0) → Answer A → Type 0
GivenOnly Given (answered value) = Unit {0}
GivenOnly Given (refused number index) = Given number index
