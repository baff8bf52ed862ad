-- The replay bench, as `load` hands it out and its caller ticks it: document 01, "The replay bench".
-- Assumes nothing.
use Rattle.std.specs.Prelude.{◌≡◌, List, ℕ, suc, ◌≤◌}
use Rattle.model.specs.Jobs.{jobs_of}
use Rattle.model.specs.Machine.{sooner}
use Rattle.model.specs.Replay.{last_tick}
use Rattle.model.specs.Answer.{answered}
use Rattle.table.specs.TableOf.{table_of}
use Rattle.requests.specs.Entry.{entries, list_of}
use Rattle.bench.specs.declared.state.Bench.{Bench}
use Rattle.bench.specs.declared.state.Outcome.TheVariants.{Running}
use Rattle.bench.specs.Rule.{tick_of, run_of}
use Rattle.bench.specs.Ticked.{left_in, Going, Ticked, Spends, Kept}
use Rattle.bench.specs.Loaded.{run_whole}
use Rattle.bench.specs.BenchMeaning.{Holds, Ended}
use Rattle.desk.specs.ListQuestions.{load_asked}

-- any state, also one that no load gives
pub record TicksRightly (b : Bench) : Type 0 where
  pub ticked : Ticked b (tick_of b)
  -- "A stopped bench .. comes back from a tick unchanged, and so does a state past that last tick."
  pub stands : (Going b → ⊥) → tick_of b ≡ b
  -- at most one unit, and to the request that has the right to it: what changed got it
  pub spends : (k : ℕ) → (left_in (tick_of b) k ≡ left_in b k → ⊥) → Spends b (tick_of b) k
  pub keeps : Kept b (tick_of b)

-- a bench that is loaded with the list
pub record LoadedRightly (s list : List ℕ) : Type 0 where
  pub bench : Bench
  pub is : load_asked s list ≡ answered (record { records = entries list; bench = bench })
  -- after n ticks, of the 131,071 that a run may have, while it runs it holds what the machine has left
  pub holds : (n : ℕ) → n ≤ suc last_tick → (run_of n bench).outcome ≡ Running
      → let jobs = jobs_of (table_of s) (list_of list) in
      Holds jobs (sooner jobs) n (run_of n bench)
  -- "All runs end by tick 131,070", and say of the machine what the document says
  pub ends : let jobs = jobs_of (table_of s) (list_of list) in Ended jobs (sooner jobs) (run_whole bench)
