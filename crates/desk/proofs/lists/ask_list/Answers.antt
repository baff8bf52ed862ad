-- `ask_list` meets its contract: what the check of the list says.
-- Assumes nothing.
use mathlib.Core.Path.{◌∙◌}
use Rattle.desk.specs.ListQuestions.{on_list, counts}
use Rattle.desk.specs.Said.{result_of}
use Rattle.desk.proofs.AskLaws.{of_read}
use Rattle.desk.proofs.ListLaws.{list_said}
use Rattle.desk.proofs.lists.ask_list.Goals as goal

pub returns : goal.returns
returns c =
    let table = c.in_ok-table.table in
    let list = c.args.list.now in
    of_read (λ b. result_of (on_list b list counts)) table c.in_ok-table.ensures.bytes
    (c.check_list.ensures ∙ list_said table list)
