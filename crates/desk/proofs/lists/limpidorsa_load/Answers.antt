-- `limpidorsa_load` meets its contract: the table's refusal, the list's, or the bench, each laid flat.
-- Assumes nothing.
use mathlib.Core.Path.{sym, ap, ap₂, ◌∙◌}
use Rattle.std.proofs.Common.{Ok}
use Rattle.table.specs.Ready.{shape_of}
use Rattle.desk.specs.Laid.{laid_loaded}
use Rattle.desk.specs.ListQuestions.{on_list, load_asked, loads}
use Rattle.desk.specs.Said.{result_by, loading_pair}
use Rattle.desk.proofs.AskLaws.{of_read}
use Rattle.desk.proofs.LaidLaws.{loaded_laid}
use Rattle.desk.proofs.ListLaws.{list_unread, list_refused, list_answered, list_count, list_listed}
use Rattle.desk.proofs.lists.limpidorsa_load.Goals as goal

pub returns-in-Err : goal.returns-in-Err
unfolding load_asked
returns-in-Err c =
    let told = sym c.read_apart.ensures.shape ∙ ap shape_of c.in-Err.is in
    c.from.ensures
    ∙ ap laid_loaded (list_unread c.args.table.now c.args.list.now told loading_pair loads)
    ∙ loaded_laid _

pub returns-in-Err-check_list : goal.returns-in-Err-check_list
unfolding load_asked
returns-in-Err-check_list c =
    let table = c.in-Ok.table in
    let list = c.args.list.now in
    let told = sym c.check_list.ensures ∙ c.in-Err-check_list.is in
    c.from-in-Err-check_list.ensures
    ∙ ap laid_loaded
    (of_read (λ b. result_by loading_pair (on_list b list loads)) table c.in-Ok.ensures.bytes
    (list_refused table list told loading_pair loads))
    ∙ loaded_laid _

pub load-requires : goal.load-requires
load-requires c =
    list_listed c.in-Ok.table c.args.list.now (sym c.check_list.ensures ∙ c.in-Ok-check_list.is)

pub returns : goal.returns
unfolding load_asked
returns c =
    let table = c.in-Ok.table in
    let list = c.args.list.now in
    let told = sym c.check_list.ensures ∙ c.in-Ok-check_list.is in
    c.from-2.ensures
    ∙ ap laid_loaded
    (of_read (λ b. result_by loading_pair (on_list b list loads)) table c.in-Ok.ensures.bytes
    (ap Ok (ap₂ (λ n bench. (n, bench)) (list_count table list told) c.load.ensures)
    ∙ list_answered table list told loading_pair loads))
    ∙ loaded_laid _
