-- Numbers added in order, none of them above a bound: what the loop keeps, and a law for its start, its turn and its
-- end.
-- Assumes nothing.
use mathlib.Core.Path.{◌≡◌, sym, ◌∙◌, ap}
use Prim.Native.Nat.{ℕ, ◌+◌, ◌*◌, ◌≤◌, ◌<◌}
use native.Mathlib.Nat.{add-mul, mul-le-mul_right}
use native.Mathlib.Omega.{arith}
use Rattle.laws.specs.Sums.{sum}
use Rattle.laws.proofs.SumLaws.{sum_zero, sum_turn}

-- the first k of the n numbers are added
pub record Adding (f : ℕ → ℕ) (bound n so_far k : ℕ) : Type 0 where
  pub within : k ≤ n
  pub is : so_far ≡ sum k f
  pub small : so_far ≤ k * bound

pub adding_none : (f : ℕ → ℕ) (bound n : ℕ) → Adding f bound n 0 0
adding_none f bound n = record { within = omega arith; is = sym (sum_zero f); small = omega arith }

module _ {f : ℕ → ℕ} {bound n so_far k : ℕ} (adding : Adding f bound n so_far k) where
  pub adding_on : {v : ℕ} → k < n → v ≡ f k → v ≤ bound → Adding f bound n (so_far + v) (k + 1)
  adding_on more here most =
      record {
        within = omega arith;
        is = sum_turn f k adding.is here;
        small = omega (arith, adding.small, add-mul k 1 bound);
      }

  -- m numbers at the most
  pub adding_room : (m : ℕ) → k ≤ m → so_far ≤ m * bound
  adding_room m few = omega (arith, adding.small, mul-le-mul_right bound few)

  pub adding_end : n ≤ k → so_far ≡ sum n f
  adding_end done = adding.is ∙ ap (λ (m : ℕ). sum m f) all
    where
      all : k ≡ n
      all = omega (arith, adding.within)
