-- A bench that is stepped from outside is the document's bench, after each tick; and the bench beside a refusal is
-- zero.
-- Assumes nothing.
use mathlib.Core.Path.{◌≡◌, refl, sym, ap, ◌∙◌}
use mathlib.Core.Logic.{⊎_elim}
use Prim.Native.Nat.{ℕ, zero, suc, ◌≤◌}
use native.Mathlib.Omega.{arith}
use Rattle.laws.proofs.Cases.{lt_or_le}
use Rattle.model.specs.Replay.{last_tick}
use Rattle.bench.specs.declared.state.Bench.{Bench}
use Rattle.bench.specs.declared.state.Outcome.{Outcome}
use Rattle.bench.specs.declared.state.Outcome.TheVariants.{Running, Missed, AllMet}
use Rattle.bench.specs.Rule.{with_outcome, tick_of, run_of}
use Rattle.bench.specs.Ticked.{Going}
use Rattle.bench.proofs.OneUnit.{tick_stands}
use Rattle.bench.specs.Loaded.{slots_of, loaded}
use Rattle.laws.specs.Sums.{tabulate}
use Rattle.desk.specs.FlatBench.{outcome_number, missed_record, flat_bench, flat_tick}
use Rattle.desk.proofs.FlatTickLaws.{flat_tick_stopped, flat_tick_past, flat_tick_running}
use Rattle.promise.specs.ListForms.{outcome_by, read_state}
use Rattle.promise.specs.NothingLost.{flat_run, Stepped, IdleZero}

outcome_kept : (o : Outcome) → outcome_by (outcome_number o) (missed_record o) ≡ o
outcome_kept Running = refl
outcome_kept (Missed index) = refl
outcome_kept AllMet = refl

module _ (b : Bench) where
  pub state_kept : read_state (flat_bench b) ≡ b
  unfolding flat_bench
  state_kept = ap (with_outcome b) (outcome_kept b.outcome)

  -- one that does not go on comes back on both sides
  stands : (Going b → ⊥) → flat_bench b ≡ flat_tick (flat_bench b) → flat_tick (flat_bench b) ≡ flat_bench (tick_of b)
  stands still same = sym same ∙ ap flat_bench (sym (tick_stands b still))

  stopped : 1 ≤ outcome_number b.outcome → flat_tick (flat_bench b) ≡ flat_bench (tick_of b)
  unfolding flat_bench
  stopped from =
      stands (λ going. let runs = ap outcome_number going.running in omega arith)
      (flat_tick_stopped (flat_bench b) (λ runs. omega arith))

  goes : b.outcome ≡ Running → flat_tick (flat_bench b) ≡ flat_bench (tick_of b)
  unfolding flat_bench
  goes runs =
      let zero_is = ap outcome_number runs in
      ⊎_elim
      (λ past.
      stands (λ going. let in_time = going.in_time in omega arith) (flat_tick_past (flat_bench b) zero_is past))
      (λ within. sym (flat_tick_running (flat_bench b) zero_is within (ap (with_outcome b) runs) refl refl))
      (lt_or_le last_tick b.tick)

  by_outcome : (o : Outcome) → b.outcome ≡ o → flat_tick (flat_bench b) ≡ flat_bench (tick_of b)
  by_outcome Running is = goes is
  by_outcome (Missed index) is = let one = ap outcome_number is in stopped (omega arith)
  by_outcome AllMet is = let two = ap outcome_number is in stopped (omega arith)

run_kept : (n : ℕ) (b : Bench) → flat_run n (flat_bench b) ≡ flat_bench (run_of n b)
unfolding run_of
run_kept zero b = refl
run_kept (suc n) b = ap (flat_run n) (by_outcome b b.outcome refl) ∙ run_kept n (tick_of b)

pub stepped : (b : Bench) → Stepped b
stepped b = record { state = state_kept b; steps = λ n. run_kept n b }

pub idle_zero : IdleZero
unfolding flat_bench loaded slots_of tabulate
idle_zero = refl
