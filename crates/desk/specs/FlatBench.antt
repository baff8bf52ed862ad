-- The bench's state laid flat, and a tick of it, for every state that a caller may hand in.
-- Assumes nothing.
use Rattle.std.specs.Prelude.{cond, ℕ, eqb, ltb}
use Rattle.model.specs.Replay.{last_tick}
use Rattle.model.specs.Answer.{Answer, answered, refused}
use Rattle.bench.specs.declared.state.Bench.{Bench}
use Rattle.bench.specs.declared.state.Outcome.{Outcome}
use Rattle.bench.specs.declared.state.Outcome.TheVariants.{Running, Missed, AllMet}
use Rattle.bench.specs.Rule.{tick_of}
use Rattle.bench.specs.Loaded.{loaded, no_jobs}
use Rattle.desk.specs.declared.answers.State.{State}
use Rattle.desk.specs.declared.answers.Loaded.{Loaded}
use Rattle.desk.specs.ListQuestions.{Loading}
use Rattle.desk.specs.Flat.{none, refusal}

-- 0 running, 1 missed, 2 all met
abbrev pub outcome_number : Outcome → ℕ
outcome_number Running = 0
outcome_number (Missed index) = 1
outcome_number AllMet = 2

abbrev pub missed_record : Outcome → ℕ
missed_record Running = 0
missed_record (Missed index) = index
missed_record AllMet = 0

unfoldable pub flat_bench : Bench → State
flat_bench b =
    record {
      tick = b.tick;
      outcome = outcome_number b.outcome;
      index = missed_record b.outcome;
      left = b.left;
      due = b.due;
      arrive = b.arrive;
      release = b.release;
      task = b.task;
    }

-- beside a refusal stands a bench with nothing to do
unfoldable pub flat_loaded : Answer Loading → Loaded
flat_loaded (answered x) = record { refusal = none; records = x.records; state = flat_bench x.bench }
flat_loaded (refused number index) =
    record { refusal = refusal number index; records = 0; state = flat_bench (loaded no_jobs) }

-- the bench of a state that has not stopped
abbrev pub running : State → Bench
running s =
    record {
      tick = s.tick;
      left = s.left;
      due = s.due;
      arrive = s.arrive;
      release = s.release;
      task = s.task;
      outcome = Running;
    }

-- "A stopped bench .. comes back from a tick unchanged", and every outcome but 0 is a bench that has stopped; "and so
-- does a state past that last tick". Else "Each tick takes a bench state and hands back the next"
unfoldable pub flat_tick : State → State
flat_tick s =
    cond (eqb s.outcome 0) (cond (ltb last_tick s.tick) s (flat_bench (tick_of (running s)))) s
