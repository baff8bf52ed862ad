-- `make_plan` meets its contract: the array is made place by place.
-- Assumes nothing.
use Rattle.std.proofs.Common.{rules}
use Rattle.laws.proofs.FromFn.{made_list}
use Rattle.table.specs.TableOf.{records_before, plan_of}
use Rattle.table.proofs.plan.make_plan.Goals as goal

pub returns : goal.returns
unfolding plan_of
returns c =
    rw (made_list _ _ (records_before c.args.n c.args.s.now) (λ k y q called. search rules) c.from_fn.ensures.items)
