-- `find_overload` meets its contract: what the verdict tells.
-- Assumes nothing.
use mathlib.Core.Path.{ap, ◌∙◌}
use Rattle.std.proofs.Common.{Err}
use Rattle.model.specs.Verdict.{horizon}
use Rattle.desk.proofs.WritingLaws.{calm_said, overload_said, writer_asked}
use Rattle.desk.proofs.writer.find_overload.Goals as goal

-- no overload
pub returns-in_default : goal.returns-in_default
unfolding horizon
returns-in_default c =
    ap Err c.alone.ensures ∙ calm_said c.args.table.now c.judge_to.ensures c.in_default.not-Overloaded

pub invariant_of-result : goal.invariant_of-result
unfolding horizon
invariant_of-result c =
    record { asked = writer_asked c.args.table.now c.judge_to.ensures c.in-Overloaded.is }

pub returns : goal.returns
unfolding horizon
returns c = overload_said c.args.table.now c.judge_to.ensures c.in-Overloaded.is
