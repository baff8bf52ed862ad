-- A run that is not carried on past its stop: the same bench as the run of all ticks, and one that is computed in as
-- many steps as the bench takes ticks.
-- Assumes nothing.
use mathlib.Core.Path.{◌≡◌, refl, sym, ◌∙◌, ap}
use Prim.Native.Nat.{ℕ, zero, suc}
use Rattle.model.specs.Jobs.{Jobs}
use Rattle.model.specs.Replay.{Replayed, last_tick}
use Rattle.bench.specs.declared.state.Bench.{Bench}
use Rattle.bench.specs.declared.state.Outcome.{Outcome}
use Rattle.bench.specs.declared.state.Outcome.TheVariants.{Running, Missed, AllMet}
use Rattle.bench.specs.Rule.{tick_of, run_of}
use Rattle.bench.specs.Loaded.{loaded, run_whole, answer_of, end_of, replay_of}
use Rattle.bench.proofs.TickLaws.{missed_stopped, met_stopped, tick_stopped, run_none, run_suc, run_kept}

unfoldable pub run_stops : ℕ → Bench → Bench
run_stops zero b = b
run_stops (suc n) b = elim b.outcome [ Running ↦ run_stops n (tick_of b) | Missed i ↦ b | AllMet ↦ b ]

-- one tick, by the outcome before it
stops_at : (n : ℕ) (b : Bench) (outcome : Outcome) → b.outcome ≡ outcome
    → run_stops n (tick_of b) ≡ run_of n (tick_of b)
    → elim outcome [ Running ↦ run_stops n (tick_of b) | Missed i ↦ b | AllMet ↦ b ] ≡ run_of (suc n) b
stops_at n b Running is rest = rest ∙ sym (run_suc n b)
stops_at n b (Missed i) is rest = sym (run_kept (suc n) b (tick_stopped b (missed_stopped is)))
stops_at n b AllMet is rest = sym (run_kept (suc n) b (tick_stopped b (met_stopped is)))

run_stops_is : (n : ℕ) (b : Bench) → run_stops n b ≡ run_of n b
unfolding run_stops
run_stops_is zero b = sym (run_none b)
run_stops_is (suc n) b = stops_at n b b.outcome refl (run_stops_is n (tick_of b))

-- the replay by such a run
unfoldable pub replay_stops : Jobs → Replayed
replay_stops jobs = let end = run_stops (suc last_tick) (loaded jobs) in answer_of end.outcome end.tick

pub replay_stops_is : (jobs : Jobs) → replay_stops jobs ≡ replay_of jobs
unfolding replay_stops end_of run_whole
replay_stops_is jobs =
    ap (λ (b : Bench). answer_of b.outcome b.tick) (run_stops_is (suc last_tick) (loaded jobs))
