-- `first_left` meets its contract: `find` answers the first with work left.
-- Assumes nothing.
use Rattle.std.proofs.Common.{rules, tests}
use Rattle.laws.proofs.FindLaws.{find_below}
use Rattle.bench.specs.Rule.{first_left}
use Rattle.bench.proofs.state.Bench.first_left.Goals as goal

pub returns : goal.returns
unfolding first_left
returns c = find_below _ _ _ c.find.ensures.ran (λ x b q k. search (rules, tests))
