-- A bench that is stepped from outside is the document's bench laid flat, after each tick; and the bench that stands
-- beside a refusal is all zero.
-- Assumes nothing.
use Rattle.std.specs.Prelude.{◌≡◌, List, ℕ, zero, suc, replicate}
use Rattle.requests.specs.Entry.{most_requests}
use Rattle.bench.specs.declared.state.Bench.{Bench}
use Rattle.bench.specs.Rule.{run_of}
use Rattle.bench.specs.Loaded.{loaded, no_jobs}
use Rattle.desk.specs.declared.answers.State.{State}
use Rattle.desk.specs.FlatBench.{flat_bench, flat_tick}
use Rattle.promise.specs.ListForms.{read_state}

-- n ticks from outside
abbrev pub flat_run : ℕ → State → State
flat_run zero s = s
flat_run (suc n) s = flat_run n (flat_tick s)

-- any bench, also one that no load gives
pub record Stepped (b : Bench) : Type 0 where
  pub state : read_state (flat_bench b) ≡ b
  pub steps : (n : ℕ) → flat_run n (flat_bench b) ≡ flat_bench (run_of n b)

-- "In a refusal every other field is zero": the flat definitions say so themselves, but for the bench that stands there
abbrev pub zero_state : State
zero_state =
    let zeros : List ℕ = replicate most_requests 0 in
    record {
      tick = 0;
      outcome = 0;
      index = 0;
      left = zeros;
      due = zeros;
      arrive = zeros;
      release = zeros;
      task = zeros;
    }

abbrev pub IdleZero : Type 0
IdleZero = flat_bench (loaded no_jobs) ≡ zero_state
