-- The bench is the machine by the document's order, with a stop rule: while it runs, its slots have left what the
-- machine on the list's jobs has left after as many ticks, and where it has stopped, it says what document 01 says of
-- the stop.
-- Assumes nothing.
use mathlib.Core.Path.{◌≡◌, refl, ap}
use Prim.Native.Nat.{ℕ, suc, ◌≤◌}
use native.Mathlib.Omega.{arith}
use Rattle.model.specs.Jobs.{Jobs}
use Rattle.model.specs.Machine.{sooner}
use Rattle.model.specs.Replay.{last_tick, missed, all_met}
use Rattle.model.specs.Stage.{Turned, late_now, done_now, goes_on, KeepsTo, Stage, runs, stopped}
use Rattle.model.proofs.JobsSame.{sooner_same}
use Rattle.model.proofs.StageLaws.{run_stage}
use Rattle.requests.specs.Entry.{most_requests}
use Rattle.bench.specs.declared.state.Bench.{Bench}
use Rattle.bench.specs.declared.state.Outcome.TheVariants.{Running}
use Rattle.bench.specs.Rule.{next_in, less_one, moved_on, tick_of, run_of}
use Rattle.bench.specs.Loaded.{loaded}
use Rattle.bench.specs.Ticked.{Ticked, stays, stops, meets, moves}
use Rattle.bench.specs.BenchMeaning.{Holds, RunsOn, StoppedWith}
use Rattle.bench.proofs.TickLaws.{missed_stopped, met_stopped, tick_stopped, run_none, run_more}
use Rattle.bench.proofs.OneUnit.{tick_right}
use Rattle.bench.proofs.Holding.{holds_start, slots_beside, lowest_there, none_there, done_there, undone_there, holds_moved}

module _ (jobs : Jobs) (fits : jobs.count ≤ most_requests) where
  module _ (n : ℕ) (b : Bench) (going : RunsOn jobs (sooner jobs) n b) where
    holds : Holds jobs (sooner jobs) n b
    holds = going.holds

    next_holds : Holds jobs (sooner jobs) (suc n) (moved_on b (less_one b.left (next_in b)))
    unfolding next_in
    next_holds = holds_moved fits holds (sooner_same (slots_beside fits holds))

    turn_right : n ≤ last_tick → (next : Bench) → Ticked b next
        → Turned jobs (sooner jobs) (RunsOn jobs (sooner jobs)) StoppedWith n next
    turn_right soon next (stays over) =
        absurd (over (record { running = going.running; in_time = omega (arith, holds.tick) }))
    turn_right soon next (stops i still misses) =
        late_now i (lowest_there fits holds i misses)
        (record { stopped = missed_stopped refl; answers = ap (λ t. missed t i) holds.tick })
    turn_right soon next (meets still none done) =
        done_now (done_there fits holds done)
        (record { stopped = met_stopped refl; answers = ap all_met holds.tick })
    turn_right soon next (moves still none some unit) =
        goes_on (none_there fits holds none) (undone_there fits holds some)
        (record { running = going.running; holds = next_holds })

  keeps_to : KeepsTo jobs (sooner jobs) (RunsOn jobs (sooner jobs)) StoppedWith last_tick tick_of
  keeps_to =
      record {
        turns = λ n b soon going. turn_right n b going soon (tick_of b) (tick_right b);
        stands = λ b answer stands. tick_stopped b stands.stopped;
      }

  start : RunsOn jobs (sooner jobs) 0 (loaded jobs)
  unfolding loaded
  start = record { running = refl; holds = holds_start jobs (sooner jobs) fits }

  abbrev pub BenchStage : ℕ → Bench → Type 0
  BenchStage = Stage jobs (sooner jobs) (RunsOn jobs (sooner jobs)) StoppedWith

  pub run_stands : (n : ℕ) → n ≤ suc last_tick → BenchStage n (run_of n (loaded jobs))
  run_stands =
      run_stage keeps_to (λ n. run_of n (loaded jobs)) (rw (run_none (loaded jobs)) start)
      (λ n. run_more n (loaded jobs))

  running_holds : (n : ℕ) (b : Bench) → BenchStage n b → b.outcome ≡ Running → Holds jobs (sooner jobs) n b
  running_holds n b (runs going behind) running = going.holds
  running_holds n b (stopped answer less stands says) running = absurd (stands.stopped running)

  -- the bench is the machine: while it runs it holds what the machine has left
  pub run_holds : (n : ℕ) → n ≤ suc last_tick → (run_of n (loaded jobs)).outcome ≡ Running
      → Holds jobs (sooner jobs) n (run_of n (loaded jobs))
  run_holds n soon = running_holds n (run_of n (loaded jobs)) (run_stands n soon)
