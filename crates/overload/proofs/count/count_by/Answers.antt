-- The answers that `count_by` is asked for.
-- Assumes nothing.
use mathlib.Core.Path.{sym}
use native.Mathlib.Omega.{arith}
use borrow.Author.Tests.{le-leb, lt-leb}
use Rattle.std.proofs.Common.{true, false, rules}
use Rattle.table.proofs.ReadyLaws.{run_count}
use Rattle.overload.proofs.CountLaws.{counting_start, counting_end, counting_on}
use Rattle.overload.proofs.count.count_by.Goals as goal
use Rattle.overload.proofs.count.count_by.Goals.{then-from-left, else-from-left}

pub loop-left-init : goal.loop-left-init
loop-left-init c = counting_start _ _ _ (omega (arith, c.requires.inside, run_count c.args.task.now))

pub frame-x-requires : goal.frame-x-requires
frame-x-requires c = omega (arith, c.loop-left.invariant.inside, run_count c.args.task.now)

pub next-i-requires : goal.next-i-requires
next-i-requires c = omega (arith, c.loop-left.invariant.inside, run_count c.args.task.now)

pub loop-left-preserved : goal.loop-left-preserved
loop-left-preserved c =
    let task = c.args.task.now in
    let x = c.frame-x.result in
    let inv = c.loop-left.invariant in
    let next = rw (sym (run_count task)) at c.next-i.ensures in
    elim c.if-from-left.branch [
      | then-from-left w ↦
          let fits = le-leb x.d c.loop-left.left (search rules) in
          counting_on task.proper inv x true (search rules) w.many-is
      | else-from-left w ↦
          let late = lt-leb x.d c.loop-left.left (search rules) in
          counting_on task.proper inv x false (search rules) w.many-is
    ]

pub returns : goal.returns
returns c = counting_end c.args.task.now.proper c.loop-left.invariant (search rules)
