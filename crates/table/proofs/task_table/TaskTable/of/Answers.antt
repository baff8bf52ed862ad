-- `of` meets its contract: what was read has so many records, and the plan is of them.
-- Assumes nothing.
use Rattle.table.proofs.TableReaderExact.{shaped}
use Rattle.table.proofs.task_table.TaskTable.of.Goals as goal

pub make_plan-requires : goal.make_plan-requires
make_plan-requires c =
    let told = shaped c.args.bytes.now c.args.shape c.requires in
    (told.inside, told.few_records)
