-- `first_lane` meets its contract: a task of the table has the requests from its start on, and past the last task there
-- are none.
-- Assumes nothing.
use Rattle.std.proofs.Common.{rules}
use Rattle.table.proofs.ReadyLaws.{table_proper, run_has}
use Rattle.overload.proofs.LaneLaws.{lane_frame, lane_inside, lane_past}
use Rattle.overload.proofs.overload.Overload.first_lane.Goals as goal

pub count_by-left-requires-clause-inside : goal.count_by-left-requires-clause-inside
count_by-left-requires-clause-inside c =
    let list = c.args.self.now in
    let frame = lane_frame (table_proper list.table.now) list.asked c.args.k (search rules) (search rules) in
    run_has c.task.result c.task.ensures (rw c.from.ensures frame)

pub returns-then-k-tasks : goal.returns-then-k-tasks
returns-then-k-tasks c =
    let list = c.args.self.now in
    let counted = rw (c.task.ensures, c.from.ensures) at c.count_by-left.ensures in
    lane_inside (table_proper list.table.now) list.asked c.args.k (search rules) (search rules) counted

pub returns-else-k-tasks : goal.returns-else-k-tasks
returns-else-k-tasks c =
    let list = c.args.self.now in
    lane_past (table_proper list.table.now) list.asked c.args.k (search rules) (search rules)
