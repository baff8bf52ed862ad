-- `most_of` meets its contract. The invariant: the peak is that of the starts tried so far (`Trying`).
-- Assumes nothing.
use Rattle.table.specs.Ready.{task_in}
use Rattle.sums.proofs.MostLaws.{Trying}
use Rattle.sums.proofs.peak.most_of.Given as goal

abbrev pub invariant-loop-start : goal.invariant-loop-start
invariant-loop-start l = Trying (task_in l.run) l.which l.t l.peak l.start
