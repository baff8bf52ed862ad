-- `count_by` meets its contract. The invariant: the requests tried so far are counted up to the last that is due
-- (`Counting`). The measure is the time left, which every P lessens.
-- Assumes nothing.
use Rattle.table.specs.Ready.{task_in}
use Rattle.overload.proofs.CountLaws.{Counting}
use Rattle.overload.proofs.count.count_by.Given as goal

abbrev pub invariant-loop-left : goal.invariant-loop-left
invariant-loop-left l = Counting (task_in l.task) l.start l.t l.left l.i l.n l.many

abbrev pub decreases-loop-left : goal.decreases-loop-left
decreases-loop-left l = l.left
