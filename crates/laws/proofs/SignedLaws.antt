-- The difference of two naturals as a signed number, and a signed number as an i64.
-- Assumes nothing.
use mathlib.Core.Path.{◌≡◌, ap, ◌∙◌}
use mathlib.Core.Logic.{inl, inr}
use Prim.Native.Nat.{ℕ, suc, ◌-◌, ◌^◌, ◌≤◌, ◌<◌}
use native.Mathlib.Nat.{sub-zero}
use native.Mathlib.Omega.{arith}
use lib.Dec.{ltb}
use lib.IntN.{ℤ, pos, negsuc, sub_ℕ}
use lib.Signed.{mag, lt_z}
use mir.Syntax.{w64}
use mir.Val.{to_z, of_z}
use mir.Facts.{to_z-of_z}
use borrow.Author.Tests.{lt-ltb, le-ltb}
use Rattle.laws.proofs.Cases.{lt_or_le}

pub sub_below : (a b : ℕ) → a < b → sub_ℕ a b ≡ negsuc (b - suc a)
sub_below a b h = simp (lt-ltb a b h)

pub sub_above : (a b : ℕ) → b ≤ a → sub_ℕ a b ≡ pos (a - b)
sub_above a b h = simp (le-ltb a b h)

-- it is below zero exactly where b is above a
pub sub_sign : (a b : ℕ) → lt_z (sub_ℕ a b) (pos 0) ≡ ltb a b
sub_sign a b =
    elim (lt_or_le a b) [
      | inl less ↦ rw (sub_below a b less, lt-ltb a b less)
      | inr more ↦ rw (sub_above a b more, le-ltb a b more, le-ltb (a - b) 0 (omega arith))
    ]

-- a signed value, stored and read again
pub signed_kept : (z : ℤ) → mag z < 2 ^ 63 → to_z w64 (of_z w64 z) ≡ z
signed_kept z h = to_z-of_z {w = w64} {z = z} (record { sfits = h })

pub sub_zero_is : (a : ℕ) → sub_ℕ a 0 ≡ pos a
sub_zero_is a = sub_above a 0 (omega arith) ∙ ap pos (sub-zero a)
