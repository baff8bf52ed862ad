-- `first_lanes` meets its contract: the array is made lane by lane.
-- Assumes nothing.
use mathlib.Core.Path.{ap}
use Rattle.std.proofs.Common.{rules}
use Rattle.table.specs.Ready.{table_in}
use Rattle.overload.specs.Counts.{first_lane, first_lanes}
use Rattle.laws.proofs.FromFn.{made_whole}
use Rattle.overload.proofs.overload.Overload.first_lanes.Goals as goal

pub returns : goal.returns
unfolding first_lanes
returns c =
    let made = first_lane (table_in c.args.self.now.table.now) c.args.self.now.t in
    ap (λ each. record { each = each })
    (made_whole _ _ made (λ k y q called. search rules) c.from_fn.ensures.items (made 0))
