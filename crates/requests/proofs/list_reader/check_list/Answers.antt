-- The answers that `requests::list_reader::check_list` is asked for.
-- Assumes nothing.
use Rattle.std.proofs.Common.{rules}
use mathlib.Core.Path.{refl, sym, ◌∙◌}
use native.Mathlib.Omega.{arith}
use Rattle.laws.proofs.ReaderLaws.{read_short, reads_start, reads_turn, reads_stopped, reads_whole}
use Rattle.model.specs.Request.{last_arrival}
use Rattle.table.proofs.FaultLaws.{number_some}
use Rattle.requests.proofs.CarriedLaws.{nothing_at_first}
use Rattle.requests.proofs.CheckLaws.{check_stopped, check_whole}
use Rattle.requests.proofs.list_reader.check_list.Goals as goal

pub returns-then-is_bad_list_length : goal.returns-then-is_bad_list_length
returns-then-is_bad_list_length c =
    rw c.alone.ensures
    (check_stopped _ _ (read_short _ (sym c.is_bad_list_length.ensures ∙ c.if-is_bad_list_length.true)))

pub loop-i-init : goal.loop-i-init
loop-i-init c =
    rw (nothing_at_first c.default-known.ensures)
    (reads_start _ c.is_bad_list_length.ensures c.if-is_bad_list_length.false)

pub returns-in-Some : goal.returns-in-Some
unfolding last_arrival
returns-in-Some c =
    rw c.at.ensures
    (check_stopped _ _
    (reads_stopped c.loop-i.invariant (search rules) c.entry_at-x.ensures c.in-Some.ensures
    (λ e. omega (arith, number_some c.in-Some.fault))))

pub loop-i-preserved : goal.loop-i-preserved
unfolding last_arrival
loop-i-preserved c =
    reads_turn c.loop-i.invariant (search rules) c.entry_at-x.ensures c.in_default.ensures refl c.after.ensures

pub returns : goal.returns
returns c = check_whole _ _ (reads_whole c.loop-i.invariant (search rules)) (search rules)
