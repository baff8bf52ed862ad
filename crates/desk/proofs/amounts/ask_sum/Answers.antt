-- `ask_sum` meets its contract: 9, then 7, then the task's peak.
-- Assumes nothing.
use mathlib.Core.Path.{sym, ap, ◌∙◌}
use native.Mathlib.Omega.{arith}
use Rattle.std.proofs.Common.{Ok, Err, rules}
use Rattle.model.specs.Verdict.{horizon}
use Rattle.sums.specs.Sized.{peak_by}
use Rattle.desk.proofs.AskLaws.{tasks_read, task_missing, task_too_far, task_said}
use Rattle.desk.proofs.amounts.ask_sum.Goals as goal

-- no such task
pub returns-then-shape-task : goal.returns-then-shape-task
returns-then-shape-task c =
    let read = sym c.read_table.ensures ∙ c.in_ok-shape.was in
    let tasks = tasks_read _ _ read in
    cc (task_missing _ _ read (peak_by c.args.which) c.args.task c.args.t (omega arith))

-- t is too far
pub returns-then-t-gt-HORIZON : goal.returns-then-t-gt-HORIZON
unfolding horizon
returns-then-t-gt-HORIZON c =
    let read = sym c.read_table.ensures ∙ c.in_ok-shape.was in
    let tasks = tasks_read _ _ read in
    ap Err c.alone-then-t-gt-HORIZON.ensures
    ∙ task_too_far _ _ read (peak_by c.args.which) c.args.task c.args.t (omega arith) (search rules)

pub peak_of-requires-clause-there : goal.peak_of-requires-clause-there
peak_of-requires-clause-there c =
    let tasks = tasks_read _ _ (sym c.read_table.ensures ∙ c.in_ok-shape.was) in
    rw c.of-table.ensures (omega arith)

pub returns : goal.returns
unfolding horizon
returns c =
    let read = sym c.read_table.ensures ∙ c.in_ok-shape.was in
    let tasks = tasks_read _ _ read in
    ap Ok (rw c.of-table.ensures at c.peak_of.ensures.sum_is)
    ∙ task_said _ _ read (peak_by c.args.which) c.args.task c.args.t (omega arith) (search rules)
