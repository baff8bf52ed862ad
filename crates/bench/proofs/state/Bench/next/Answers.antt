-- `next` meets its contract: of the slots that are ready, `min_by_key` answers the first in the order.
-- Assumes nothing.
use Prim.Native.Nat.{ℕ}
use lib.ListN.{get_or}
use Rattle.std.proofs.Common.{rules, tests, arith}
use Rattle.std.proofs.lemmas.Bool.Decides.{nat_tests}
use Rattle.laws.proofs.LeastByKey.{callable_below, least_below}
use Rattle.model.specs.Machine.{sooner, ready, pick}
use Rattle.model.proofs.PickLaws.{picked_from_below}
use Rattle.requests.specs.Entry.{most_requests}
use Rattle.bench.specs.Rule.{jobs_in, next_in}
use Rattle.bench.specs.declared.state.Bench.{Bench}
use Rattle.bench.proofs.state.Bench.next.Goals as goal

pub min_by_key-requires-clause-callable : goal.min_by_key-requires-clause-callable
min_by_key-requires-clause-callable c =
    let b = c.args.self.now in
    callable_below most_requests (ready (jobs_in b) b.tick (jobs_in b).amount) c.filter.ensures.source
    c.filter.ensures.closure (λ x r q k. search (rules, tests)) _ (λ x r q k. search rules)
    (λ x low. search (rules, tests))

-- what the order goes by
abbrev key : Bench → ℕ → ℕ × ℕ × ℕ
key b k = (get_or b.due k 0, get_or b.task k 0, get_or b.arrive k 0)

pub returns-clause-first : goal.returns-clause-first
unfolding next_in sooner
returns-clause-first c =
    let b = c.args.self.now in
    let test = ready (jobs_in b) b.tick (jobs_in b).amount in
    let before = sooner (jobs_in b) in
    least_below most_requests test c.filter.ensures.source c.filter.ensures.closure
    (λ x r q k. search (rules, tests)) _ (key b) before (pick test before) (λ x r q k. search (rules, tests))
    c.min_by_key.ensures.ran
    (picked_from_below test before)
    (λ m k. grind (arith, nat_tests))
