-- `ask_margin` meets its contract: 7, or t minus the sum of the demands.
-- Assumes nothing.
use mathlib.Core.Path.{sym, ap, ◌∙◌}
use Rattle.std.proofs.Common.{Ok, Err, rules}
use lib.IntN.{sub_ℕ}
use Rattle.laws.proofs.SignedLaws.{signed_kept}
use Rattle.model.specs.Demand.{margin}
use Rattle.model.specs.Verdict.{horizon}
use Rattle.sums.proofs.TotalLaws.{demands_are}
use Rattle.desk.proofs.AskLaws.{time_too_far, time_said}
use Rattle.desk.proofs.amounts.ask_margin.Goals as goal

-- t is too far
pub returns-then-t-gt-HORIZON : goal.returns-then-t-gt-HORIZON
unfolding horizon
returns-then-t-gt-HORIZON c =
    let read = sym c.read_table.ensures ∙ c.in_ok-shape.was in
    ap Err c.alone.ensures ∙ time_too_far _ _ read margin c.args.t (search rules)

-- the margin as the machine holds it is the margin
pub returns : goal.returns
unfolding horizon
returns c =
    let read = sym c.read_table.ensures ∙ c.in_ok-shape.was in
    let held = signed_kept c.spare.result c.spare.type_inv in
    let demands = rw c.of-table.ensures at (demands_are c.total.ensures) in
    let is = held ∙ c.spare.ensures ∙ ap (sub_ℕ c.args.t) demands in
    ap Ok is ∙ time_said _ _ read margin c.args.t (search rules)
