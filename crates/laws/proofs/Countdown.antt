-- What is left of n turns before turn i: the laws by which a loop unfolds its definition.
-- Assumes nothing.
use mathlib.Core.Path.{◌≡◌}
use Prim.Native.Nat.{ℕ, suc, ◌+◌, ◌-◌, ◌≤◌, ◌<◌}
use native.Mathlib.Omega.{arith}

module _ (n : ℕ) where
  pub all_left : n - 0 ≡ n
  all_left = omega arith

  pub one_less : (i : ℕ) → i < n → n - i ≡ suc (n - (i + 1))
  one_less i more = omega arith

  pub none_left : (i : ℕ) → n ≤ i → n - i ≡ 0
  none_left i done = omega arith

-- all the numbers from `start` on
pub all_from : (start many : ℕ) → start + many - start ≡ many
all_from start many = omega arith

-- the same of the numbers from 1 to a limit
module _ (limit : ℕ) where
  pub all_to : suc limit - 1 ≡ limit
  all_to = omega arith

  pub one_less_to : (i : ℕ) → i ≤ limit → suc limit - i ≡ suc (suc limit - suc i)
  one_less_to i more = omega arith

  pub none_to : (i : ℕ) → limit < i → suc limit - i ≡ 0
  none_to i past = omega arith
