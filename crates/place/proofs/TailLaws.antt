-- A tail that was lent and has come back.
-- Assumes nothing.
use mathlib.Core.Path.{◌≡◌}
use mathlib.Core.List.{List, ◌++◌, append-nil}
use Prim.Native.Nat.{ℕ, ◌+◌, ◌-◌, ◌≤◌}
use native.Mathlib.Omega.{arith}
use lib.ListN.{length, take, drop, length-drop}
use lib.Seq.{take_all, drop-length, drop-drop}
use borrow.Rule.Slice.PartMut.{put_mid, mid_of}

module _ (out : List ℕ) (at : ℕ) (within : at ≤ length out) where
  -- what is lent is the tail
  pub lent_tail : mid_of at (length out - at) out ≡ drop at out
  lent_tail = take_all (length out - at) (drop at out) (simp length-drop (omega arith))

  -- and it comes back after what stands before it
  pub back_tail : (last : List ℕ) → put_mid at (length out - at) out last ≡ take at out ++ last
  back_tail last =
      let end : at + (length out - at) ≡ length out = omega arith in rw (drop-drop, end, drop-length, append-nil)
