-- The answers that `table::reader::read_table` is asked for.
-- Assumes nothing.
use mathlib.Core.Path.{sym, ap, ◌∙◌}
use Rattle.std.proofs.Common.{rules}
use native.Mathlib.Omega.{arith}
use Rattle.laws.proofs.ReaderLaws.{read_short, reads_stopped, reads_whole}
use Rattle.table.specs.Faults.{faulted}
use Rattle.table.proofs.FaultLaws.{number_some}
use Rattle.table.proofs.Turns.{nothing_said, few_start, few_turn}
use Rattle.table.proofs.ReadLaws.{reading_stopped, reading_whole}
use Rattle.table.proofs.reader.read_table.Goals as goal

pub returns-then-is_bad_table_length : goal.returns-then-is_bad_table_length
returns-then-is_bad_table_length c =
    rw c.alone.ensures
    (reading_stopped _ (read_short _ (sym c.is_bad_table_length.ensures ∙ c.if-is_bad_table_length.true)))

pub loop-i-init : goal.loop-i-init
loop-i-init c =
    few_start _ c.is_bad_table_length.ensures c.if-is_bad_table_length.false
    (nothing_said (search rules) (search rules) (search rules) (search rules))

pub returns-in-Some : goal.returns-in-Some
returns-in-Some c =
    rw c.at.ensures
    (reading_stopped _
    (reads_stopped
    c.loop-i.invariant.on
    c.loop-i-test.true
    c.record_at-x.ensures
    c.in-Some.ensures
    (λ e. omega (arith, number_some c.in-Some.fault))))

pub loop-i-preserved : goal.loop-i-preserved
loop-i-preserved c =
    few_turn
    c.loop-i.invariant
    (search rules)
    c.record_at-x.ensures
    c.fault.ensures
    (ap faulted c.in_default.is)
    c.after-known.ensures

pub returns : goal.returns
returns c =
    let on = c.loop-i.invariant.on in
    reading_whole _ (reads_whole on (search rules)) (search rules) (search rules)
