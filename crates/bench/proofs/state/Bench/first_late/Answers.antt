-- `first_late` meets its contract: `find` answers the first that is late.
-- Assumes nothing.
use Rattle.std.proofs.Common.{rules, tests}
use Rattle.laws.proofs.FindLaws.{find_below}
use Rattle.bench.specs.Rule.{first_late}
use Rattle.bench.proofs.state.Bench.first_late.Goals as goal

pub returns : goal.returns
unfolding first_late
returns c = find_below _ _ _ c.find.ensures.ran (λ x b q k. search (rules, tests))
