-- `frame` meets its contract: it is the i-th record from the task's first on.
-- Assumes nothing.
use Rattle.table.proofs.ReadyLaws.{run_frame}
use Rattle.table.proofs.task_run.TaskRun.frame.Goals as goal

pub returns : goal.returns
returns c = run_frame c.args.self.now c.requires c.record_at.ensures
