-- `place_of` meets its contract: the plan says where the task begins and ends.
-- Assumes nothing.
use native.Mathlib.Omega.{arith}
use Rattle.table.proofs.ReadyLaws.{ready_of, ready_low, ready_stands, ready_place}
use Rattle.table.proofs.task_table.TaskTable.place_of.Goals as goal

pub offset_bounds-self-k : goal.offset_bounds-self-k
offset_bounds-self-k c = omega (arith, ready_low (ready_of c.args.self.now) c.args.k c.requires)

pub bounds-self-k : goal.bounds-self-k
bounds-self-k c = omega (arith, ready_low (ready_of c.args.self.now) c.args.k c.requires)

pub overflow_add-result : goal.overflow_add-result
overflow_add-result c = omega (arith, ready_low (ready_of c.args.self.now) c.args.k c.requires)

pub offset_bounds-self-k-2 : goal.offset_bounds-self-k-2
offset_bounds-self-k-2 c = omega (arith, ready_low (ready_of c.args.self.now) c.args.k c.requires)

pub bounds-self-k-2 : goal.bounds-self-k-2
bounds-self-k-2 c = omega (arith, ready_low (ready_of c.args.self.now) c.args.k c.requires)

pub overflow_sub-result : goal.overflow_sub-result
overflow_sub-result c = (ready_stands (ready_of c.args.self.now) c.args.k c.requires).ordered

pub returns : goal.returns
returns c = ready_place (ready_of c.args.self.now) c.args.k c.requires
