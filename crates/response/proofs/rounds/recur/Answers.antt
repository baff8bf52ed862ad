-- The answers that `recur` is asked for.
-- Assumes nothing.
use native.Mathlib.Omega.{arith}
use Rattle.std.proofs.Common.{rules}
use Rattle.model.proofs.HigherLaws.{over_never_falls}
use Rattle.response.proofs.RoundLaws.{rounds_rise}
use Rattle.response.proofs.AnswerLaws.{recurring_start, recurring_late, recurring_on_time, recurring_on}
use Rattle.response.proofs.rounds.recur.Goals as goal

-- the value is repeated
pub returns-then-next-value : goal.returns-then-next-value
returns-then-next-value c =
    let share = c.add_shares.ensures in
    recurring_on_time c.loop-value.invariant share.is (search rules) c.if-next-value.true

pub loop-value-smaller : goal.loop-value-smaller
loop-value-smaller c =
    let share = c.add_shares.ensures in
    let rounds = c.loop-value.invariant.rounds in
    omega (arith, rounds_rise rounds share.is (search rules) (over_never_falls _ _) c.if-next-value.false)

pub loop-value-preserved : goal.loop-value-preserved
loop-value-preserved c =
    let share = c.add_shares.ensures in
    recurring_on c.loop-value.invariant share.is (search rules) share.at_most (over_never_falls _ _)
    c.if-next-value.false

-- the value passes `end`
pub returns : goal.returns
returns c = recurring_late c.loop-value.invariant (search rules)

pub loop-value-init : goal.loop-value-init
loop-value-init c = recurring_start _ _ _
