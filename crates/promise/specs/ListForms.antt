-- How each kind of answer about a request list is laid flat, and what a caller reads out of it again.
-- Assumes nothing.
use Rattle.std.specs.Prelude.{cond, List, ℕ, zero, suc, length}
use Rattle.model.specs.Replay.{Replayed, missed, all_met}
use Rattle.bench.specs.declared.state.Bench.{Bench}
use Rattle.bench.specs.declared.state.Outcome.{Outcome}
use Rattle.bench.specs.declared.state.Outcome.TheVariants.{Running, Missed, AllMet}
use Rattle.desk.specs.declared.answers as flat
use Rattle.desk.specs.ListQuestions.{Loading}
use Rattle.desk.specs.FlatList.{seen, flat_written, flat_listed, flat_ending}
use Rattle.desk.specs.FlatBench.{flat_loaded}
use Rattle.promise.specs.Forms.{Form, plain_form}

abbrev pub size_form : Form ℕ
size_form = plain_form flat_written (λ r. r.refusal) (λ r. r.bytes)

abbrev pub written_form : Form (List ℕ)
written_form =
    record {
      Sees = ℕ;
      Flat = flat.Written.Written;
      look = length;
      lay = λ said. flat_written (seen length said);
      refusal_in = λ r. r.refusal;
      value_in = λ r. r.bytes;
    }

abbrev pub listed_form : Form ℕ
listed_form = plain_form flat_listed (λ r. r.refusal) (λ r. r.records)

abbrev pub ending_form : Form Replayed
ending_form =
    plain_form flat_ending (λ r. r.refusal)
    (λ r. cond r.missed (missed r.tick r.index) (all_met r.tick))

-- 0 running, 1 missed, 2 all met
abbrev pub outcome_by : ℕ → ℕ → Outcome
outcome_by zero index = Running
outcome_by (suc zero) index = Missed index
outcome_by (suc (suc n)) index = AllMet

abbrev pub read_state : flat.State.State → Bench
read_state r =
    record {
      tick = r.tick;
      left = r.left;
      due = r.due;
      arrive = r.arrive;
      release = r.release;
      task = r.task;
      outcome = outcome_by r.outcome r.index;
    }

abbrev pub loading_form : Form Loading
loading_form =
    plain_form flat_loaded (λ r. r.refusal) (λ r. record { records = r.records; bench = read_state r.state })
