-- The bench as it is loaded, and what its run answers: document 01, "The replay bench".
-- Assumes nothing.
use Rattle.std.specs.Prelude.{cond, List, ℕ, suc, ltb}
use Rattle.laws.specs.Sums.{tabulate}
use Rattle.model.specs.Jobs.{Jobs}
use Rattle.model.specs.Replay.{Replayed, missed, all_met, last_tick}
use Rattle.requests.specs.Entry.{most_requests}
use Rattle.bench.specs.declared.state.Bench.{Bench}
use Rattle.bench.specs.declared.state.Outcome.{Outcome}
use Rattle.bench.specs.declared.state.Outcome.TheVariants.{Running, Missed, AllMet}
use Rattle.bench.specs.Rule.{run_of}

-- one number for each job; "all zero before loading", so 0 past the last
unfoldable pub slots_of : ℕ → (ℕ → ℕ) → List ℕ
slots_of count f = tabulate most_requests (λ k. cond (ltb k count) (f k) 0)

unfoldable pub loaded : Jobs → Bench
loaded jobs =
    record {
      tick = 0;
      left = slots_of jobs.count jobs.amount;
      due = slots_of jobs.count jobs.due;
      arrive = slots_of jobs.count jobs.arrive;
      release = slots_of jobs.count jobs.release;
      task = slots_of jobs.count jobs.task;
      outcome = Running;
    }

-- nothing to do
abbrev pub no_jobs : Jobs
no_jobs = record { count = 0; task = λ k. 0; arrive = λ k. 0; release = λ k. 0; due = λ k. 0; amount = λ k. 0 }

-- "All runs end by tick 131,070": a state at that tick is still taken
unfoldable pub run_whole : Bench → Bench
run_whole b = run_of (suc last_tick) b

-- "It answers the miss, or all met". No run of a loaded list ends while running; that case has to say something.
abbrev pub answer_of : Outcome → ℕ → Replayed
answer_of (Missed i) tick = missed tick i
answer_of AllMet tick = all_met tick
answer_of Running tick = all_met tick

unfoldable pub end_of : Bench → Replayed
end_of b = let end = run_whole b in answer_of end.outcome end.tick

-- the replay of a list: it is loaded and run
abbrev pub replay_of : Jobs → Replayed
replay_of jobs = end_of (loaded jobs)
