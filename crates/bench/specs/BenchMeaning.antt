-- What a loaded bench and its run mean, over the order that it goes by: the machine's amounts in the slots, and an end
-- that says what document 01 says.
-- Assumes nothing.
use Rattle.std.specs.Prelude.{◌≡◌, ℕ, ◌≤◌, ◌<◌}
use Rattle.model.specs.Jobs.{Jobs}
use Rattle.model.specs.Machine.{Order, left_at}
use Rattle.model.specs.Replay.{Replayed, ReplaySays, last_tick}
use Rattle.requests.specs.Entry.{most_requests}
use Rattle.bench.specs.declared.state.Bench.{Bench}
use Rattle.bench.specs.declared.state.Outcome.TheVariants.{Running}
use Rattle.bench.specs.Loaded.{loaded, answer_of}
use Rattle.bench.specs.Ticked.{left_in, Kept}

-- what the slots hold is what the machine on these jobs has left before tick t; other slots have nothing left
pub record Holds (jobs : Jobs) (before : Order) (t : ℕ) (b : Bench) : Type 0 where
  pub tick : b.tick ≡ t
  pub left : (k : ℕ) → k < jobs.count → left_in b k ≡ left_at jobs before t k
  pub past : (k : ℕ) → jobs.count ≤ k → left_in b k ≡ 0
  pub kept : Kept (loaded jobs) b

-- it runs, and holds that
pub record RunsOn (jobs : Jobs) (before : Order) (t : ℕ) (b : Bench) : Type 0 where
  pub running : b.outcome ≡ Running
  pub holds : Holds jobs before t b

-- it has stopped, and that is its answer
pub record StoppedWith (b : Bench) (answer : Replayed) : Type 0 where
  pub stopped : b.outcome ≡ Running → ⊥
  pub answers : answer_of b.outcome b.tick ≡ answer

-- jobs that the bench has room for, each due by the last tick
pub record Replayable (jobs : Jobs) : Type 0 where
  pub fits : jobs.count ≤ most_requests
  pub in_time : (k : ℕ) → k < jobs.count → jobs.due k ≤ last_tick

-- a run of all its ticks has ended, and rightly
pub record Ended (jobs : Jobs) (before : Order) (b : Bench) : Type 0 where
  pub stopped : b.outcome ≡ Running → ⊥
  pub soon : b.tick ≤ last_tick
  pub says : ReplaySays jobs before (answer_of b.outcome b.tick)
