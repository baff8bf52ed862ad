-- `front` meets its contract: of the tasks with requests left, `min_by_key` answers the first whose next comes first.
-- Assumes nothing.
use Rattle.std.proofs.Common.{rules, tests, arith}
use Rattle.std.proofs.lemmas.Bool.Decides.{nat_tests}
use Rattle.laws.proofs.LeastByKey.{callable_below, least_below}
use Rattle.model.specs.Machine.{pick}
use Rattle.model.proofs.PickLaws.{picked_from_below}
use Rattle.overload.specs.Lanes.{lane, has_more, comes_before, front}
use Rattle.overload.proofs.lanes.Lanes.front.Goals as goal

pub min_by_key-requires-clause-callable : goal.min_by_key-requires-clause-callable
min_by_key-requires-clause-callable c =
    callable_below c.args.tasks (has_more c.args.self.now) c.filter.ensures.source c.filter.ensures.closure
    (λ x r q k. search (rules, tests)) _ (λ x r q k. search rules) (λ x low. search (rules, tests))

pub returns : goal.returns
unfolding front
returns c =
    let lanes = c.args.self.now in
    let test = has_more lanes in
    let before = comes_before lanes in
    least_below c.args.tasks test c.filter.ensures.source c.filter.ensures.closure
    (λ x r q k. search (rules, tests)) _ (λ k. (lane lanes k).arrival) before (pick test before)
    (λ x r q k. search (rules, tests)) c.min_by_key.ensures.ran
    (picked_from_below test before)
    (λ m k. grind (arith, nat_tests))
