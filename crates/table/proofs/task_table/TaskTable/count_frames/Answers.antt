-- `count_frames` meets its contract: the task's records say how many.
-- Assumes nothing.
use Rattle.table.proofs.ReadyLaws.{run_frames}
use Rattle.table.proofs.task_table.TaskTable.count_frames.Goals as goal

pub returns : goal.returns
returns c = run_frames c.task.result c.task.ensures
