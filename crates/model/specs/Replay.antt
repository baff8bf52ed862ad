-- What a replay answers, and what each answer says of the machine: document 01, "The replay bench".
-- Assumes nothing.
use Rattle.std.specs.Prelude.{◌≡◌, ℕ, ◌<◌}
use Rattle.model.specs.Jobs.{Jobs}
use Rattle.model.specs.Machine.{Order, left_at}
use Rattle.model.specs.Tick.{Late, LowestLate, Undone}

-- "It answers the miss, or all met with the tick after the last unit"
pub data Replayed : Type 0 where
  missed : (tick index : ℕ) → Replayed
  all_met : (tick : ℕ) → Replayed

-- "All runs end by tick 131,070."
unfoldable pub last_tick : ℕ
last_tick = 131070

module _ (jobs : Jobs) (before : Order) where
  -- the machine before tick t
  abbrev pub LateAt : ℕ → ℕ → Type 0
  LateAt t k = Late jobs t (left_at jobs before t) k

  abbrev pub UndoneAt : ℕ → Type 0
  UndoneAt t = Undone jobs (left_at jobs before t)

  -- "At tick T, first any request with work left and deadline at most T is a miss; the bench stops and names the one
  -- with the lowest record index": so nothing was late before
  pub record Missed (t i : ℕ) : Type 0 where
    pub misses : LowestLate jobs t (left_at jobs before t) i
    pub first : (u k : ℕ) → u < t → LateAt u k → ⊥

  -- "all met with the tick after the last unit (0 for an empty list)": work was left before every earlier tick
  pub record Met (t : ℕ) : Type 0 where
    pub done : (k : ℕ) → k < jobs.count → left_at jobs before t k ≡ 0
    pub worked : (u : ℕ) → u < t → UndoneAt u
    pub on_time : (u k : ℕ) → LateAt u k → ⊥

  -- what an answer says
  abbrev pub ReplaySays : Replayed → Type 0
  ReplaySays (missed t i) = Missed t i
  ReplaySays (all_met t) = Met t
