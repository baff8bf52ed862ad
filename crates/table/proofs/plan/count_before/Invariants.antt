-- `table::plan::count_before` meets its contract. The loop's invariant, `Counts`: `before` is how many of the first i
-- records are of a task below k.
-- Assumes nothing.
use Rattle.table.proofs.Counting.{Counts}
use Rattle.table.proofs.plan.count_before.Given as goal

abbrev pub invariant-loop-i : goal.invariant-loop-i
invariant-loop-i l = Counts l.s l.n l.k l.before l.i
