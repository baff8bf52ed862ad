-- `peak_of` meets its contract: the greatest sum of the task's records is its demand or its work.
-- Assumes nothing.
use Rattle.sums.proofs.PeakReady.{task_peaks}
use Rattle.sums.proofs.total.peak_of.Goals as goal

pub returns : goal.returns
returns c = task_peaks c.task.ensures c.most_of.ensures
