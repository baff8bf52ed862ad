-- A function that rises at no step never rises, and one that no step changes stays.
-- Assumes nothing.
use mathlib.Core.Path.{◌≡◌, ap, ◌∙◌}
use mathlib.Core.Logic.{inl, inr}
use Prim.Native.Nat.{ℕ, zero, suc, ◌≤◌, ◌<◌}
use native.Mathlib.Nat.{le_refl, le_step, le_trans}
use native.Mathlib.Omega.{arith}
use Rattle.laws.proofs.Cases.{lt_or_le}

pub falling_mono : (f : ℕ → ℕ) → ((t : ℕ) → f (suc t) ≤ f t) → (s t : ℕ) → s ≤ t → f t ≤ f s
falling_mono f falls s zero later = rw (none later) (le_refl _)
  where
    none : s ≤ 0 → s ≡ 0
    none later = omega arith
falling_mono f falls s (suc t) later =
    elim (lt_or_le t s) [
      | inl now ↦ rw (same now) (le_refl _)
      | inr earlier ↦ le_trans (falls t) (falling_mono f falls s t earlier)
    ]
  where
    same : t < s → s ≡ suc t
    same now = omega arith

pub steady : {A : Type 0} (f : ℕ → A) (n m : ℕ) → n ≤ m → ((k : ℕ) → n ≤ k → k < m → f (suc k) ≡ f k) → f m ≡ f n
steady f n zero longer stays = ap f (omega arith)
steady f n (suc m) longer stays =
    elim (lt_or_le m n) [
      | inl less ↦ ap f (same less)
      | inr more ↦ stays m more (le_refl (suc m)) ∙ steady f n m more (λ k low high. stays k low (le_step high))
    ]
  where
    same : m < n → suc m ≡ n
    same less = omega arith
