-- Some requests of each task, as early as they may come, put into one list "sorted by arrival, then task number".
-- Assumes nothing.
use Rattle.std.specs.Prelude.{Bool, ◌≡◌, ℕ, zero, suc, ◌+◌, ◌<◌, ltb, eqb}
use Rattle.laws.specs.Sums.{sum, only}
use Rattle.laws.specs.Search.{place_or}
use Rattle.model.specs.Task.{Table}
use Rattle.model.specs.Demand.{frame, offset}
use Rattle.model.specs.Request.{Request, Requests, Sorted, of_task}
use Rattle.model.specs.Machine.{Order, pick}

-- of each task, the frame of its first request, how many requests it makes, and when the first arrives
pub record Runs : Type 0 where
  pub start : ℕ → ℕ
  pub many : ℕ → ℕ
  pub from : ℕ → ℕ

module _ (table : Table) (runs : Runs) where
  -- "from its start frame, the earliest arrivals": request n of task k, n from 0 on
  abbrev pub earliest : ℕ → ℕ → Request
  earliest k n =
      record {
        task = k;
        frame = frame (table.task k) (runs.start k) n;
        arrival = runs.from k + offset (table.task k) (runs.start k) n;
      }

  -- ---- what the list is, with no word of how it is put together

  pub record Woven (list : Requests) : Type 0 where
    pub known : (i : ℕ) → i < list.count → (list.request i).task < table.tasks
    -- a task's requests in the list are its requests 0, 1, 2, .. in their order
    pub in_turn : (i : ℕ) → i < list.count
        → list.request i ≡ earliest (list.request i).task (of_task list (list.request i).task i)
    -- and all of them
    pub all : (k : ℕ) → k < table.tasks → of_task list k list.count ≡ runs.many k
    -- "Sorted by arrival, then task number."
    pub sorted : Sorted list

  -- ---- the list: of the tasks' next requests, always the earliest, that of the lower task at equal arrivals

  -- of task k, `taken k` requests stand in the list already
  abbrev pub some_left : (ℕ → ℕ) → ℕ → Bool
  some_left taken k = ltb (taken k) (runs.many k)

  abbrev pub earlier : (ℕ → ℕ) → Order
  earlier taken j k = ltb (earliest j (taken j)).arrival (earliest k (taken k)).arrival

  -- the task of the next request
  unfoldable pub foremost : (ℕ → ℕ) → ℕ
  foremost taken = place_or 0 (pick (some_left taken) (earlier taken) table.tasks)

  -- how many requests of task k are among the first i
  unfoldable pub taken_by : ℕ → ℕ → ℕ
  taken_by zero k = 0
  taken_by (suc i) k = taken_by i k + only (eqb (foremost (taken_by i)) k) 1

  -- request i of the list
  unfoldable pub next_at : ℕ → Request
  next_at i = let k = foremost (taken_by i) in earliest k (taken_by i k)

  unfoldable pub weave : Requests
  weave = record { count = sum table.tasks runs.many; request = next_at }
