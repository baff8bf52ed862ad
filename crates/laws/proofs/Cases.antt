-- Orders and equalities of two numbers by cases.
-- Assumes nothing.
use mathlib.Core.Bool.{Bool, true, false}
use mathlib.Core.Path.{◌≡◌, refl, sym, subst}
use mathlib.Core.Logic.{◌⊎◌, inl, inr}
use Prim.Native.Nat.{ℕ, suc, ◌≤◌, ◌<◌}
use native.Mathlib.Omega.{arith}
use lib.Dec.{ltb}
use borrow.Author.Tests.{ltb-true, ltb-false}

pub lt_or_le : (a b : ℕ) → (a < b) ⊎ (b ≤ a)
lt_or_le a b = which (ltb a b) refl
  where
    which : (t : Bool) → ltb a b ≡ t → (a < b) ⊎ (b ≤ a)
    which true e = inl (ltb-true a b e)
    which false e = inr (ltb-false a b e)

-- below suc b: below b, or b itself
pub lt_or_last : (a b : ℕ) → a < suc b → (a < b) ⊎ (a ≡ b)
lt_or_last a b h = elim (lt_or_le a b) [ inl less ↦ inl less | inr more ↦ inr (omega arith) ]

-- what holds below n and at n holds below suc n
pub below_suc : (P : ℕ → Type 0) (n : ℕ) → ((j : ℕ) → j < n → P j) → P n → (j : ℕ) → j < suc n → P j
below_suc P n each here j below =
    elim (lt_or_last j n below) [ inl less ↦ each j less | inr last ↦ subst P (sym last) here ]

-- neither of two numbers is the lower
pub neither_lower : (a b : ℕ) → (a < b → ⊥) → (b < a → ⊥) → a ≡ b
neither_lower a b not_less not_more =
    elim (lt_or_le a b) [
      | inl less ↦ absurd (not_less less)
      | inr most ↦ elim (lt_or_le b a) [ inl more ↦ absurd (not_more more) | inr least ↦ omega arith ]
    ]
