-- The answers that `judge_to` is asked for.
-- Assumes nothing.
use mathlib.Core.Path.{◌∙◌, ap, ap₂}
use mathlib.Core.List.{List}
use Prim.Native.Nat.{ℕ}
use lib.IntN.{ℤ, sub_ℕ}
use mir.Syntax.{w64}
use mir.Facts.{to_z_pos}
use native.Mathlib.Omega.{arith}
use Rattle.std.proofs.Common.{rules}
use Rattle.laws.proofs.SignedLaws.{signed_kept}
use Rattle.model.specs.Verdict.{overloaded, overloaded_at, fits}
use Rattle.model.proofs.Walking.{WalkingTurn, walking_start, walking_end, walking_over, walking_fits, walking_on}
use Rattle.table.specs.Ready.{table_in}
use Rattle.table.proofs.ReadyLaws.{table_proper}
use Rattle.sums.proofs.TotalLaws.{demands_are, work_is}
use Rattle.verdict.specs.VerdictWritten.{verdict_of}
use Rattle.verdict.proofs.TurnLaws.{lower_turn, equal_turn}
use Rattle.verdict.proofs.judge.judge_to.Goals.{After-total, then-margin-low, else-margin-low}
use Rattle.verdict.proofs.judge.judge_to.Goals as goal

pub loop-t-init : goal.loop-t-init
loop-t-init c = walking_start (table_proper c.args.table.now) _

-- an overload at t
pub returns-then-t-asked : goal.returns-then-t-asked
unfolding overloaded_at
returns-then-t-asked c =
    let demands = demands_are c.total-asked.ensures in
    let made = c.spare in
    ap₂ (λ (m : ℤ) (l : List ℕ). verdict_of (overloaded c.loop-t.t m l))
    (signed_kept made.result made.type_inv ∙ made.ensures ∙ ap (sub_ℕ c.loop-t.t) demands)
    c.starts_at.ensures
    ∙ ap verdict_of (walking_over (table_proper c.args.table.now) _ c.loop-t.invariant (search rules) (omega arith))

-- t is tried, and is no overload
turn : (c : After-total)
    → WalkingTurn (table_in c.args.table.now) c.args.limit c.loop-t.t c.loop-t.low c.loop-t.at c.total-asked.result
    c.if-margin-low.low c.if-margin-low.at
turn c =
    let demands = demands_are c.total-asked.ensures in
    elim c.if-margin-low.branch [
      | then-margin-low w ↦
          rw (w.low-is, w.at-is) (lower_turn (omega arith) demands (search rules) w.if-margin-low.true)
      | else-margin-low w ↦
          rw (w.low-is, w.at-is) (equal_turn (omega arith) demands (search rules) w.if-margin-low.false)
    ]

-- t closes
pub returns-then-total-t : goal.returns-then-total-t
returns-then-total-t c =
    let good = table_proper c.args.table.now in
    let tried = turn (goal.at.returns-then-total-t c).After-total in
    let work = work_is c.total.ensures in
    ap (λ (m : ℤ). verdict_of (fits c.loop-t.t m c.if-margin-low.at)) (to_z_pos w64 (search rules))
    ∙ ap verdict_of (walking_fits good _ c.loop-t.invariant tried (omega arith))

pub loop-t-preserved : goal.loop-t-preserved
loop-t-preserved c =
    let tried = turn (goal.at.loop-t-preserved c).After-total in
    let work = work_is c.total.ensures in
    walking_on (table_proper c.args.table.now) _ c.loop-t.invariant tried (omega arith)

-- no t is left: the last does not close, or there is none to try
pub returns-else-total-t : goal.returns-else-total-t
returns-else-total-t c =
    let good = table_proper c.args.table.now in
    let tried = turn (goal.at.returns-else-total-t c).After-total in
    let work = work_is c.total.ensures in
    ap verdict_of (walking_end good _ (walking_on good _ c.loop-t.invariant tried (omega arith)) (search rules))

pub returns : goal.returns
returns c = ap verdict_of (walking_end (table_proper c.args.table.now) _ c.loop-t.invariant (search rules))
