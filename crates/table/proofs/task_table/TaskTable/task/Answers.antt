-- `task` meets its contract: its records are those of its place.
-- Assumes nothing.
use Rattle.table.proofs.ReadyLaws.{table_proper, place_task}
use Rattle.table.proofs.task_table.TaskTable.task.Goals as goal

pub invariant_of-result : goal.invariant_of-result
invariant_of-result c =
    let stands = c.place_of-place.ensures in
    record {
      inside = stands.inside;
      proper = rw (place_task stands) ((table_proper c.args.self.now).proper c.args.k c.requires);
    }
