-- `frame_at` meets its contract: the task has the frame.
-- Assumes nothing.
use Rattle.table.proofs.ReadyLaws.{run_has}
use Rattle.table.proofs.task_table.TaskTable.frame_at.Goals as goal

pub frame-requires : goal.frame-requires
frame-requires c = run_has c.task.result c.task.ensures c.requires.frame
