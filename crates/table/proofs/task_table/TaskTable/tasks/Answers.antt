-- `tasks` meets its contract: the plan has as many as the table.
-- Assumes nothing.
use Rattle.table.proofs.ReadyLaws.{ready_of, ready_tasks}
use Rattle.table.proofs.task_table.TaskTable.tasks.Goals as goal

pub returns : goal.returns
returns c = ready_tasks (ready_of c.args.self.now)
