-- `total` meets its contract. The invariant: the sum is that of the tasks so far (`Adding`).
-- Assumes nothing.
use Rattle.laws.proofs.Adding.{Adding}
use Rattle.table.specs.Ready.{table_in}
use Rattle.sums.specs.Sized.{bound}
use Rattle.sums.proofs.TotalLaws.{peaks}
use Rattle.sums.proofs.total.total.Given as goal

abbrev pub invariant-loop-k : goal.invariant-loop-k
invariant-loop-k l = Adding (peaks (table_in l.table) l.which l.t) (bound l.t) (table_in l.table).tasks l.sum l.k
