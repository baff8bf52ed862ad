-- `count_from` meets its contract. The invariant: the sum so far and what is left to count give the whole (`Summing`).
-- The measure is the time left, which every P lessens.
-- Assumes nothing.
use Rattle.table.specs.Ready.{task_in}
use Rattle.sums.proofs.CyclicWalkLaws.{Summing}
use Rattle.sums.proofs.cyclic.count_from.Given as goal

abbrev pub invariant-loop-left : goal.invariant-loop-left
invariant-loop-left l = Summing (task_in l.run) l.which l.t l.start l.left l.i l.sum

abbrev pub decreases-loop-left : goal.decreases-loop-left
decreases-loop-left l = l.left
