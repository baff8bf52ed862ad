-- `count_of` meets its contract: the task has the frame, and its sum is that of its records.
-- Assumes nothing.
use Rattle.table.proofs.ReadyLaws.{run_has}
use Rattle.sums.proofs.total.count_of.Goals as goal

pub count_from-requires-clause-inside : goal.count_from-requires-clause-inside
count_from-requires-clause-inside c = run_has c.task.result c.task.ensures c.requires.there.frame
