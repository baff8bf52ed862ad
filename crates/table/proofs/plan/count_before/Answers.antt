-- The answers that `table::plan::count_before` is asked for.
-- Assumes nothing.
use Rattle.std.proofs.Common.{rules}
use Rattle.table.proofs.Counting.{counts_start, counts_one, counts_none}
use Rattle.table.proofs.plan.count_before.Goals as goal
use Rattle.table.proofs.plan.count_before.Goals.{then-from-k, else-from-k}

pub loop-i-init : goal.loop-i-init
loop-i-init c = counts_start _ _ _

pub loop-i-preserved : goal.loop-i-preserved
loop-i-preserved c =
    let so_far = c.loop-i.invariant in
    let here = c.record_at.ensures in
    elim c.if-from-k.branch [
      | then-from-k w ↦ rw w.before-is (counts_one so_far c.loop-i-test.true here (search rules))
      | else-from-k w ↦ rw w.before-is (counts_none so_far c.loop-i-test.true here (search rules))
    ]
