-- The bench keeps the document's rule: from any state tick by tick, and from a load to its end.
-- Assumes nothing.
use mathlib.Core.List.{List}
use Prim.Native.Nat.{ℕ}
use Rattle.model.specs.Jobs.{jobs_of}
use Rattle.table.specs.Bytes.{Bytes}
use Rattle.table.specs.TableOf.{table_of}
use Rattle.table.specs.WellFormed.{WellFormed}
use Rattle.requests.specs.Entry.{list_of}
use Rattle.requests.specs.Accepted.{Accepted}
use Rattle.requests.proofs.AcceptedLaws.{accepted_few}
use Rattle.bench.specs.declared.state.Bench.{Bench}
use Rattle.bench.proofs.OneUnit.{tick_right, tick_stands, tick_keeps, tick_spends}
use Rattle.bench.proofs.MachineRun.{run_holds}
use Rattle.desk.specs.ListQuestions.{loads, load_asked}
use Rattle.promise.specs.Given.{BothGood}
use Rattle.promise.specs.Bench.{TicksRightly, LoadedRightly}
use Rattle.promise.proofs.ListExact.{good_answered, load_ends}

pub ticks_rightly : (b : Bench) → TicksRightly b
ticks_rightly b =
    record { ticked = tick_right b; stands = tick_stands b; spends = tick_spends b; keeps = tick_keeps b }

pub loaded_rightly : (s : List ℕ) → Bytes s → WellFormed s → (list : List ℕ) → Accepted (table_of s) list
    → LoadedRightly s list
unfolding load_asked
loaded_rightly s bytes well list accepted =
    let good : BothGood s list = record { table_good = well; list_good = accepted } in
    record {
      bench = (loads (table_of s) (list_of list)).bench;
      is = good_answered loads s list good;
      holds = run_holds (jobs_of (table_of s) (list_of list)) (accepted_few accepted);
      ends = load_ends s bytes list good;
    }
