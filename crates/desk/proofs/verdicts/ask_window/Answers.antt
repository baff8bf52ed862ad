-- `ask_window` meets its contract: nothing more is asked of a table.
-- Assumes nothing.
use mathlib.Core.Path.{ap, ◌∙◌}
use Rattle.std.proofs.Common.{Ok}
use Rattle.laws.specs.Search.{option_of}
use Rattle.model.specs.Verdict.{horizon, closing_window}
use Rattle.desk.specs.Orders.{table_only}
use Rattle.desk.specs.Questions.{on_order}
use Rattle.desk.specs.Said.{result_by}
use Rattle.desk.proofs.AskLaws.{of_read, plain_said}
use Rattle.desk.proofs.verdicts.ask_window.Goals as goal

pub returns : goal.returns
unfolding horizon
returns c =
    let table = c.in_ok-table.table in
    of_read (λ b. result_by option_of (on_order b table_only (closing_window horizon))) table
    c.in_ok-table.ensures.bytes
    (ap Ok c.close_by.ensures ∙ plain_said table option_of (closing_window horizon))
