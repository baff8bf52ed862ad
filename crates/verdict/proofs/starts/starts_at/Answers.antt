-- `starts_at` meets its contract: the array is made place by place.
-- Assumes nothing.
use Rattle.std.proofs.Common.{rules}
use Rattle.laws.proofs.FromFn.{made_list}
use Rattle.model.specs.Verdict.{starts, start_in}
use Rattle.table.specs.Ready.{table_in}
use Rattle.verdict.proofs.starts.starts_at.Goals as goal

pub returns : goal.returns
unfolding starts
returns c =
    made_list _ _ (start_in (table_in c.args.table.now) c.args.t) (λ k y q called. search rules) c.from_fn.ensures.items
