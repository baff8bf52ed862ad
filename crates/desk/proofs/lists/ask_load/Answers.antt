-- `ask_load` meets its contract: the bench is loaded with the list that passed.
-- Assumes nothing.
use mathlib.Core.Path.{sym, ap, ap₂, ◌∙◌}
use Rattle.std.proofs.Common.{Ok}
use Rattle.desk.specs.ListQuestions.{on_list, loads}
use Rattle.desk.specs.Said.{result_by, loading_pair}
use Rattle.desk.proofs.AskLaws.{of_read}
use Rattle.desk.proofs.ListLaws.{list_answered, list_count, list_listed}
use Rattle.desk.proofs.lists.ask_load.Goals as goal

pub load-requires : goal.load-requires
load-requires c =
    list_listed c.in_ok-table.table c.args.list.now (sym c.check_list.ensures ∙ c.in_ok-records.was)

pub returns : goal.returns
returns c =
    let table = c.in_ok-table.table in
    let list = c.args.list.now in
    let told = sym c.check_list.ensures ∙ c.in_ok-records.was in
    of_read (λ b. result_by loading_pair (on_list b list loads)) table c.in_ok-table.ensures.bytes
    (ap Ok (ap₂ (λ n bench. (n, bench)) (list_count table list told) c.load.ensures)
    ∙ list_answered table list told loading_pair loads)
