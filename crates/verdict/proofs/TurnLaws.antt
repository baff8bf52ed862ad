-- What a t brings that is tried and is no overload: a lower margin, or none lower.
-- Assumes nothing.
use mathlib.Core.Path.{◌≡◌}
use Prim.Native.Nat.{ℕ, ◌-◌, ◌≤◌, ◌<◌}
use native.Mathlib.Omega.{arith}
use borrow.Author.Tests.{lt-ltb, le-ltb}
use Rattle.model.specs.Task.{Table}
use Rattle.model.specs.Demand.{all_demands}
use Rattle.model.proofs.Walking.{WalkingTurn}

module _ {table : Table} {limit t low at d : ℕ} (more : t ≤ limit) (asked : d ≡ all_demands table t) (calm : d ≤ t)
  where
    pub lower_turn : t - d < low → WalkingTurn table limit t low at d (t - d) t
    lower_turn lower =
        record {
          more = more;
          asked = asked;
          calm = calm;
          low_is = omega arith;
          at_is = simp (lt-ltb (t - d) low lower);
        }

    -- an equal margin keeps the earlier t
    pub equal_turn : low ≤ t - d → WalkingTurn table limit t low at d low at
    equal_turn kept =
        record {
          more = more;
          asked = asked;
          calm = calm;
          low_is = omega arith;
          at_is = simp (le-ltb (t - d) low kept);
        }
