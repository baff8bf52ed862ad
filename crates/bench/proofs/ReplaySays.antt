-- What the replay of a loaded list answers is what document 01 says of the machine, and every run ends by tick 131,070.
-- Assumes nothing.
use mathlib.Core.List.{List}
use mathlib.Core.Path.{◌≡◌, refl, sym, ap, subst}
use Prim.Native.Nat.{ℕ, suc}
use native.Mathlib.Omega.{arith}
use native.Mathlib.Nat.{le_refl}
use Rattle.model.specs.Task.{Table, ProperTable}
use Rattle.model.specs.Request.{last_arrival}
use Rattle.model.specs.Jobs.{Jobs, jobs_of}
use Rattle.model.specs.Machine.{Order, sooner}
use Rattle.model.specs.Replay.{Replayed, ReplaySays, last_tick}
use Rattle.model.specs.Stage.{tick_in, StopsRightly}
use Rattle.model.proofs.ReplayLaws.{says_one}
use Rattle.model.proofs.StageLaws.{stage_ends}
use Rattle.requests.specs.Entry.{list_of}
use Rattle.requests.specs.Accepted.{Accepted}
use Rattle.requests.proofs.AcceptedLaws.{accepted_legal, accepted_few, accepted_near}
use Rattle.bench.specs.declared.state.Bench.{Bench}
use Rattle.bench.specs.declared.state.Outcome.{Outcome}
use Rattle.bench.specs.declared.state.Outcome.TheVariants.{Running, Missed, AllMet}
use Rattle.bench.specs.Loaded.{loaded, run_whole, answer_of, end_of, replay_of}
use Rattle.bench.specs.BenchMeaning.{Replayable, StoppedWith, Ended}
use Rattle.bench.proofs.MachineRun.{run_stands}

-- "arrivals 0 to 65,535", and D at most as much: so every list that is accepted can be replayed
pub accepted_replayable : {table : Table} → ProperTable table → (list : List ℕ) → Accepted table list
    → Replayable (jobs_of table (list_of list))
unfolding last_arrival last_tick
accepted_replayable proper list accepted =
    record {
      fits = accepted_few accepted;
      in_time = λ k inside.
          let known = (accepted_legal accepted).known k inside in
          omega (
            arith,
            accepted_near accepted k inside,
            (proper.proper ((list_of list).request k).task known.task).soon ((list_of list).request k).frame
                known.frame,
          );
    }

-- the tick that an answer names is that of the bench
answer_tick : (outcome : Outcome) (t : ℕ) → tick_in (answer_of outcome t) ≡ t
answer_tick (Missed i) t = refl
answer_tick AllMet t = refl
answer_tick Running t = refl

-- a bench that has stopped rightly has ended, by whatever order it goes
pub ended : {jobs : Jobs} {before : Order} (b : Bench) → StopsRightly jobs before StoppedWith last_tick b
    → Ended jobs before b
ended {jobs} {before} b ends =
    let answers = ends.stops.answers in
    record {
      stopped = ends.stops.stopped;
      soon = omega (arith, ends.soon, answer_tick b.outcome b.tick, ap tick_in answers);
      says = subst (ReplaySays jobs before) (sym answers) ends.says;
    }

module _ (jobs : Jobs) (good : Replayable jobs) where
  -- "All runs end by tick 131,070."
  pub run_ends : Ended jobs (sooner jobs) (run_whole (loaded jobs))
  unfolding run_whole
  run_ends =
      let last = run_stands jobs good.fits (suc last_tick) (le_refl (suc last_tick)) in
      ended (run_whole (loaded jobs)) (stage_ends last_tick good.in_time (run_whole (loaded jobs)) last)

  pub replay_says : ReplaySays jobs (sooner jobs) (replay_of jobs)
  unfolding end_of
  replay_says = run_ends.says

  -- and nothing else says it
  pub replay_only : (x : Replayed) → ReplaySays jobs (sooner jobs) x → x ≡ replay_of jobs
  replay_only x says = says_one jobs (sooner jobs) x (replay_of jobs) says replay_says
