-- `count_left` meets its contract. The invariant: the sum is that of the lanes so far, none of which has over 32 bits.
-- Assumes nothing.
use Rattle.std.proofs.Common.{◌≡◌, ◌≤◌, ◌*◌, take}
use Rattle.requests.specs.Entry.{widest}
use Rattle.overload.specs.Lanes.{total_left}
use Rattle.overload.proofs.lanes.Lanes.count_left.Given as goal

abbrev pub invariant-loop-lane : goal.invariant-loop-lane
invariant-loop-lane l =
    record {
      is : l.sum ≡ total_left (record { each = take l.lane-index l.lane-items });
      small : l.sum ≤ widest * l.lane-index;
    }
