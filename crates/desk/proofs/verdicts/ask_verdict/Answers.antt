-- `ask_verdict` meets its contract: nothing more is asked of a table.
-- Assumes nothing.
use mathlib.Core.Path.{ap, ◌∙◌}
use Rattle.std.proofs.Common.{Ok}
use Rattle.model.specs.Verdict.{horizon, verdict}
use Rattle.verdict.specs.VerdictWritten.{verdict_of}
use Rattle.desk.specs.Orders.{table_only}
use Rattle.desk.specs.Questions.{on_order}
use Rattle.desk.specs.Said.{result_by}
use Rattle.desk.proofs.AskLaws.{of_read, plain_said}
use Rattle.desk.proofs.verdicts.ask_verdict.Goals as goal

pub returns : goal.returns
unfolding horizon
returns c =
    let table = c.in_ok-table.table in
    of_read (λ b. result_by verdict_of (on_order b table_only (verdict horizon))) table c.in_ok-table.ensures.bytes
    (ap Ok c.judge_to.ensures ∙ plain_said table verdict_of (verdict horizon))
