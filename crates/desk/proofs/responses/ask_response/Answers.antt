-- `ask_response` meets its contract: 9 for a frame that is not there, then 8, then the response.
-- Assumes nothing.
use mathlib.Core.Path.{ap, ◌∙◌}
use Rattle.std.proofs.Common.{Ok, Err}
use Rattle.response.specs.ResponseWritten.{response_of}
use Rattle.desk.specs.Questions.{framed}
use Rattle.desk.specs.Said.{result_by}
use Rattle.desk.proofs.AskLaws.{of_read}
use Rattle.desk.proofs.ResponseWays.{response_no_frame, has_frame, some_above, response_answered}
use Rattle.desk.proofs.responses.ask_response.Goals as goal

-- no such frame
pub returns-then-is_missing : goal.returns-then-is_missing
returns-then-is_missing c =
    let table = c.in_ok-table.table in
    of_read (λ b. result_by response_of (framed b c.args.task c.args.frame)) table c.in_ok-table.ensures.bytes
    (ap Err c.alone.ensures ∙ response_no_frame table _ _ c.is_missing.ensures c.if-is_missing.true)

-- D above P
pub returns-in-Some : goal.returns-in-Some
returns-in-Some c =
    let table = c.in_ok-table.table in
    of_read (λ b. result_by response_of (framed b c.args.task c.args.frame)) table c.in_ok-table.ensures.bytes
    (ap Err c.at.ensures ∙ some_above table _ _ c.is_missing.ensures c.if-is_missing.false c.in-Some.ensures)

pub respond-requires : goal.respond-requires
respond-requires c = has_frame c.in_ok-table.table _ _ c.is_missing.ensures c.if-is_missing.false

pub returns : goal.returns
returns c =
    let table = c.in_ok-table.table in
    of_read (λ b. result_by response_of (framed b c.args.task c.args.frame)) table c.in_ok-table.ensures.bytes
    (ap Ok c.respond.ensures.is
    ∙ response_answered table _ _ c.is_missing.ensures c.if-is_missing.false c.in_default.ensures)
