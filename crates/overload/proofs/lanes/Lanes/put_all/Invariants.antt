-- `put_all` meets its contract. The invariant: the first requests of the weave are written, and the lanes stand before
-- the next (`Putting`). The measure is the room that is left.
-- Assumes nothing.
use Prim.Native.Nat.{◌-◌}
use lib.ListN.{length}
use Rattle.table.specs.Ready.{table_in}
use Rattle.overload.specs.Lanes.{runs_of}
use Rattle.overload.proofs.PutLaws.{Putting}
use Rattle.overload.proofs.lanes.Lanes.put_all.Given as goal

abbrev pub invariant-loop-k : goal.invariant-loop-k
invariant-loop-k l =
    Putting (table_in l.table) (runs_of l.initial.self) l.tasks l.initial.out l.out l.self l.at

abbrev pub decreases-loop-k : goal.decreases-loop-k
decreases-loop-k l = length l.initial.out - l.at
