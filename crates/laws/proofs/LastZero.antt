-- The last number up to d at which a function is 0, where it is 0 at 0.
-- Assumes nothing.
use mathlib.Core.Path.{◌≡◌}
use mathlib.Core.Logic.{inl, inr}
use Prim.Native.Nat.{ℕ, zero, suc, ◌≤◌, ◌<◌}
use native.Mathlib.Nat.{le_refl, le_step}
use native.Mathlib.Omega.{arith}
use Rattle.laws.proofs.Cases.{lt_or_le, below_suc}

pub record LastZero (f : ℕ → ℕ) (d : ℕ) : Type 0 where
  pub place : ℕ
  pub within : place ≤ d
  pub is_zero : f place ≡ 0
  pub after : (t : ℕ) → t < suc d → place < t → 0 < f t

module _ (f : ℕ → ℕ) where
  -- one number more: it is the last, or the last stays
  zero_here : (d : ℕ) → f d ≡ 0 → LastZero f d
  zero_here d none =
      record { place = d; within = le_refl d; is_zero = none; after = λ t within past. absurd (omega arith) }

  zero_kept : (d : ℕ) → 0 < f (suc d) → LastZero f d → LastZero f (suc d)
  zero_kept d some last =
      record {
        place = last.place;
        within = le_step last.within;
        is_zero = last.is_zero;
        after = below_suc (λ t. last.place < t → 0 < f t) (suc d) last.after (λ past. some);
      }

  pub last_zero : f 0 ≡ 0 → (d : ℕ) → LastZero f d
  last_zero none zero = zero_here 0 none
  last_zero none (suc d) =
      elim (lt_or_le 0 (f (suc d)))
      [ inl some ↦ zero_kept d some (last_zero none d) | inr most ↦ zero_here (suc d) (omega arith) ]
