-- One answer only, of the functions that step a bench, which answer no question: document 01, "The replay bench": "Each
-- tick takes a bench state and hands back the next". The contracts are the checker's own, as in ContractRows.
-- Assumes nothing.
use Rattle.std.specs.Prelude.{◌≡◌}
use contract.Lifetimes.{Lfts}
use Rattle.bench.specs.Rule.{tick_of}
use Rattle.bench.specs.Loaded.{run_whole, end_of}
use Rattle.bench.specs.ReplayWritten.{replayed_of}
use Rattle.bench.proofs.state.Bench.tick.Reads as tick
use Rattle.bench.proofs.state.Bench.run.Reads as run
use Rattle.bench.proofs.replay.finish.Reads as finish
use Rattle.desk.specs.FlatBench.{flat_tick}
use Rattle.desk.proofs.ticks.limpidorsa_tick.Reads as limpidorsa_tick

-- a call has an answer that the contract allows
pub record Allowed {Args Result Exit : Type 0} (contract : Args → Result → Exit → Type 0) (a : Args) : Type 0 where
  pub answer : Result
  pub exit : Exit
  pub is : contract a answer exit

-- of a function that requires `asked` and promises `contract`, and is lent nothing to write into: its answer is
-- `meaning`; so two answers that it allows are equal
pub record Settles {Args Result Exit : Type 0} (asked : Args → Type 0) (contract : Args → Result → Exit → Type 0)
    (meaning : Args → Result) : Type 0 where
  pub free : (a : Args) → asked a
  pub some : (a : Args) → Allowed contract a
  pub means : (a : Args) (r : Result) (x : Exit) → contract a r x → r ≡ meaning a
  pub one_answer : (a : Args) (r q : Result) (x y : Exit) → contract a r x → contract a q y → r ≡ q

pub record SettledEach : Type 0 where
  pub tick : (κs : Lfts 0) → Settles (tick.Asked κs) (tick.Learnt κs) (λ a. tick_of a.0)
  pub run : (κs : Lfts 0) → Settles (run.Asked κs) (run.Learnt κs) (λ a. run_whole a.0)
  pub finish : (κs : Lfts 0) → Settles (finish.Asked κs) (finish.Learnt κs) (λ a. replayed_of (end_of a.0))
  pub limpidorsa_tick : (κs : Lfts 0) →
      Settles (limpidorsa_tick.Asked κs) (limpidorsa_tick.Learnt κs) (λ a. flat_tick a.0)
