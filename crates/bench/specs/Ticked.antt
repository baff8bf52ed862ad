-- What a tick may make of any bench state, in words: document 01, "The replay bench".
-- Assumes nothing.
use Rattle.std.specs.Prelude.{◌≡◌, ℕ, ◌≤◌, ◌<◌, get_or}
use Rattle.model.specs.Machine.{sooner}
use Rattle.model.specs.Replay.{last_tick}
use Rattle.model.specs.Tick.{Late, LowestLate, Undone, Gives, OneUnit}
use Rattle.requests.specs.Entry.{most_requests}
use Rattle.bench.specs.declared.state.Bench.{Bench}
use Rattle.bench.specs.declared.state.Outcome.TheVariants.{Running, Missed, AllMet}
use Rattle.bench.specs.Rule.{jobs_in, next_in, less_one, with_outcome, moved_on}

-- what slot k has left
abbrev pub left_in : Bench → ℕ → ℕ
left_in b k = get_or b.left k 0

-- "work left and deadline at most T"
abbrev pub LateIn : Bench → ℕ → Type 0
LateIn b k = Late (jobs_in b) b.tick (left_in b) k

-- "names the one with the lowest record index"
abbrev pub Misses : Bench → ℕ → Type 0
Misses b i = LowestLate (jobs_in b) b.tick (left_in b) i

abbrev pub NoneLate : Bench → Type 0
NoneLate b = (k : ℕ) → LateIn b k → ⊥

-- neither stopped nor past the last tick
pub record Going (b : Bench) : Type 0 where
  pub running : b.outcome ≡ Running
  pub in_time : b.tick ≤ last_tick

-- some slot has work left
abbrev pub SomeLeft : Bench → Type 0
SomeLeft b = Undone (jobs_in b) (left_in b)

pub data Ticked (b : Bench) : Bench → Type 0 where
  -- "A stopped bench .. comes back from a tick unchanged, and so does a state past that last tick."
  stays : (Going b → ⊥) → Ticked b b
  -- "any request with work left and deadline at most T is a miss; the bench stops"
  stops : (i : ℕ) → Going b → Misses b i → Ticked b (with_outcome b (Missed i))
  -- "all met with the tick after the last unit"
  meets : Going b → NoneLate b → ((k : ℕ) → k < most_requests → left_in b k ≡ 0) → Ticked b (with_outcome b AllMet)
  -- "Otherwise one unit", or none where the tick is idle
  moves : Going b → NoneLate b → SomeLeft b
      → OneUnit (jobs_in b) (sooner (jobs_in b)) b.tick (left_in b) (λ k. get_or (less_one b.left (next_in b)) k 0)
      → Ticked b (moved_on b (less_one b.left (next_in b)))

-- "one unit goes to the arrived, unfinished request with the earliest deadline, ties by lower task, then earlier
-- arrival"
abbrev pub Spends : Bench → Bench → ℕ → Type 0
Spends b next k = Gives (jobs_in b) (sooner (jobs_in b)) b.tick (left_in b) (left_in next) k

-- the requests themselves
pub record Kept (b next : Bench) : Type 0 where
  pub due : next.due ≡ b.due
  pub arrive : next.arrive ≡ b.arrive
  pub release : next.release ≡ b.release
  pub task : next.task ≡ b.task
