-- The answers that `count_from` is asked for.
-- Assumes nothing.
use mathlib.Core.Path.{refl, ◌∙◌}
use Rattle.std.proofs.Common.{rules}
use native.Mathlib.Omega.{arith}
use Rattle.laws.proofs.SumLaws.{gate}
use Rattle.table.proofs.ReadyLaws.{run_count, run_has}
use Rattle.sums.proofs.CyclicWalkLaws.{summing_start, summing_on, summing_end}
use Rattle.sums.proofs.cyclic.count_from.Goals.{in-Demand, in-Work, then-room-left, else-room-left}
use Rattle.sums.proofs.cyclic.count_from.Goals as goal

pub loop-left-init : goal.loop-left-init
loop-left-init c = summing_start _ _ _ _ (omega (arith, c.requires.inside, run_count c.args.run.now))

pub frame-x-requires : goal.frame-x-requires
frame-x-requires c = run_has c.args.run.now refl c.loop-left.invariant.inside

pub next-i-requires : goal.next-i-requires
next-i-requires c = run_has c.args.run.now refl c.loop-left.invariant.inside

pub loop-left-preserved : goal.loop-left-preserved
loop-left-preserved c =
    let read = c.frame-x.ensures in
    let fits = gate c.match-which.room c.loop-left.left c.frame-x.result.e in
    summing_on c.args.run.now.proper c.loop-left.invariant c.frame-x.result c.match-which.room (record {
      some = search rules;
      record_is = read;
      room_is = elim c.match-which.branch [
        | in-Demand w ↦ rw w.in-Demand.is (w.room-is ∙ w.from-room.ensures ∙ read.d)
        | in-Work w ↦ rw w.in-Work.is w.room-is
      ];
      sum_is = elim c.if-room-left.branch [
        | then-room-left w ↦ omega (arith, w.sum-is, w.from-sum.ensures, fits.passes w.if-room-left.true)
        | else-room-left w ↦ omega (arith, w.sum-is, fits.shut w.if-room-left.false)
      ];
      left_is = search rules;
      next_is = rw (run_count c.args.run.now) c.next-i.ensures;
    })

pub returns : goal.returns
returns c = summing_end c.args.run.now.proper c.loop-left.invariant (search rules)
