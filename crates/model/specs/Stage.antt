-- A bench held to the machine tick by tick, whatever its state is made of and whatever order it goes by: document 01,
-- "The replay bench".
-- Assumes nothing.
use Rattle.std.specs.Prelude.{◌≡◌, ℕ, suc, ◌≤◌, ◌<◌}
use Rattle.model.specs.Jobs.{Jobs}
use Rattle.model.specs.Machine.{Order, left_at}
use Rattle.model.specs.Tick.{LowestLate}
use Rattle.model.specs.Replay.{Replayed, missed, all_met, LateAt, UndoneAt, ReplaySays}

-- the tick that an answer names
abbrev pub tick_in : Replayed → ℕ
tick_in (missed t i) = t
tick_in (all_met t) = t

-- what the machine has behind it before tick t: no miss, and always work
pub record Behind (jobs : Jobs) (before : Order) (t : ℕ) : Type 0 where
  pub on_time : (u k : ℕ) → u < t → LateAt jobs before u k → ⊥
  pub worked : (u : ℕ) → u < t → UndoneAt jobs before u

-- what is to be known of a state: that it runs and holds what the machine has left before tick n, or that it has
-- stopped with an answer
module _ (jobs : Jobs) (before : Order) {State : Type 0} (Runs : ℕ → State → Type 0)
    (Stops : State → Replayed → Type 0) where
  -- what tick n may make of a state that runs: by what the machine has left it misses, has met all, or goes on
  pub data Turned (n : ℕ) (next : State) : Type 0 where
    late_now : (i : ℕ) → LowestLate jobs n (left_at jobs before n) i → Stops next (missed n i) → Turned n next
    done_now : ((k : ℕ) → k < jobs.count → left_at jobs before n k ≡ 0) → Stops next (all_met n) → Turned n next
    goes_on : ((k : ℕ) → LateAt jobs before n k → ⊥) → UndoneAt jobs before n → Runs (suc n) next → Turned n next

  -- every tick up to the last does that, and leaves a stopped state as it is
  pub record KeepsTo (last : ℕ) (tick : State → State) : Type 0 where
    pub turns : (n : ℕ) (b : State) → n ≤ last → Runs n b → Turned n (tick b)
    pub stands : (b : State) (answer : Replayed) → Stops b answer → tick b ≡ b

  -- where a state stands after n ticks
  pub data Stage (n : ℕ) (b : State) : Type 0 where
    runs : Runs n b → Behind jobs before n → Stage n b
    stopped : (answer : Replayed) → tick_in answer < n → Stops b answer → ReplaySays jobs before answer → Stage n b

-- it has stopped by the last tick, with an answer that is right
pub record StopsRightly (jobs : Jobs) (before : Order) {State : Type 0} (Stops : State → Replayed → Type 0) (last : ℕ)
    (b : State) : Type 0 where
  pub answer : Replayed
  pub soon : tick_in answer ≤ last
  pub stops : Stops b answer
  pub says : ReplaySays jobs before answer
