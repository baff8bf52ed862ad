-- `requests::list_rules::Carry::fault` meets its contract: rule 11 asks only about a task of the table.
-- Assumes nothing.
use mathlib.Core.Path.{sym, ◌∙◌}
use Rattle.requests.proofs.PlacedLaws.{passed_low}
use Rattle.requests.proofs.list_rules.Carry.fault.Goals as goal

pub is_out_of_turn-requires : goal.is_out_of_turn-requires
is_out_of_turn-requires c =
    let args = c.args in
    passed_low args.table.now args.last args.self.now args.x (sym c.is_misplaced.ensures ∙ c.if-is_misplaced.false)
