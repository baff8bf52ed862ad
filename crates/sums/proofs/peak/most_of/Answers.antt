-- The answers that `most_of` is asked for.
-- Assumes nothing.
use native.Mathlib.Omega.{arith}
use Rattle.table.proofs.ReadyLaws.{run_count}
use Rattle.sums.proofs.MostLaws.{trying_none, trying_more, trying_kept, trying_end}
use Rattle.sums.proofs.peak.most_of.Goals.{then-peak-sum, else-peak-sum}
use Rattle.sums.proofs.peak.most_of.Goals as goal

pub loop-start-init : goal.loop-start-init
loop-start-init c = trying_none _ _ _

pub loop-start-preserved : goal.loop-start-preserved
loop-start-preserved c =
    let trying = c.loop-start.invariant in
    elim c.if-peak-sum.branch [
      | then-peak-sum w ↦ rw w.peak-is (trying_more trying c.count_from-sum.ensures w.if-peak-sum.true)
      | else-peak-sum w ↦ rw w.peak-is (trying_kept trying c.count_from-sum.ensures w.if-peak-sum.false)
    ]

pub returns : goal.returns
returns c =
    trying_end c.loop-start.invariant c.args.run.now.proper.some
    (omega (arith, c.loop-start.auto.start-end, run_count c.args.run.now))
