-- `bench::load::load` meets its contract. The loop's invariant: the bench is loaded with the first i jobs.
-- Assumes nothing.
use Rattle.model.specs.Jobs.{jobs_of}
use Rattle.table.specs.Ready.{table_in}
use Rattle.requests.specs.Entry.{list_of}
use Rattle.bench.proofs.LoadTurns.{LoadingTo}
use Rattle.bench.proofs.load.load.Given as goal

abbrev pub invariant-loop-i : goal.invariant-loop-i
invariant-loop-i l = LoadingTo (jobs_of (table_in l.table) (list_of l.list)) l.i l.bench
