-- How the overload list is put together in the code: where each task stands, and the next request.
-- Assumes nothing.
use Rattle.std.specs.Prelude.{Bool, ◌≡◌, ℕ, ◌+◌, ◌-◌, ◌*◌, ◌≤◌, ◌<◌, ltb, get_or, sum_by}
use Rattle.laws.specs.Search.{Found}
use Rattle.model.specs.Task.{Task, Table}
use Rattle.model.specs.Demand.{frame}
use Rattle.model.specs.Request.{Request}
use Rattle.model.specs.Machine.{Order, pick}
use Rattle.model.specs.Weave.{Runs, earliest, weave}
use Rattle.requests.specs.Entry.{entry_size}
use Rattle.sums.specs.Sized.{ceiling}
use Rattle.overload.specs.declared.lanes.Lane.{Lane}
use Rattle.overload.specs.declared.lanes.Lanes.{Lanes}

-- ---- one lane

-- the next request, where it is task k's
abbrev pub next_request : Lane → ℕ → Request
next_request x k = record { task = k; frame = x.frame; arrival = x.arrival }

-- what is asked before it is taken
pub record Movable (task : Task) (x : Lane) : Type 0 where
  pub known : x.frame < task.count
  pub some : 0 < x.left
  pub near : x.arrival ≤ ceiling

-- it is taken
unfoldable pub lane_moved : Task → Lane → Lane
lane_moved task x =
    record { left = x.left - 1; frame = frame task x.frame 1; arrival = x.arrival + task.P x.frame }

-- ---- all lanes

-- task k's
abbrev pub lane : Lanes → ℕ → Lane
lane lanes k = get_or lanes.each k (record { left = 0; frame = 0; arrival = 0 })

abbrev pub total_left : Lanes → ℕ
total_left lanes = sum_by (λ (x : Lane). x.left) lanes.each

abbrev pub has_more : Lanes → ℕ → Bool
has_more lanes k = ltb 0 (lane lanes k).left

abbrev pub comes_before : Lanes → Order
comes_before lanes j k = ltb (lane lanes j).arrival (lane lanes k).arrival

-- of the tasks with requests left, the one whose next arrives first; the lower at equal arrivals
unfoldable pub front : ℕ → Lanes → Found
front tasks lanes = pick (has_more lanes) (comes_before lanes) tasks

-- the lanes stand where `taken k` requests of each task k are taken
pub record Stand (table : Table) (runs : Runs) (taken : ℕ → ℕ) (lanes : Lanes) : Type 0 where
  pub left_is : (k : ℕ) → k < table.tasks → (lane lanes k).left ≡ runs.many k - taken k
  pub next_is : (k : ℕ) → k < table.tasks → next_request (lane lanes k) k ≡ earliest table runs k (taken k)

-- ---- what is asked

-- the runs that the lanes say
abbrev pub runs_of : Lanes → Runs
runs_of lanes =
    record {
      start = λ k. (lane lanes k).frame;
      many = λ k. (lane lanes k).left;
      from = λ k. (lane lanes k).arrival;
    }

-- what the writer of all requests in `room` bytes asks: the starts are frames of their tasks, and no arrival is past
-- the ceiling
pub record Puts (table : Table) (runs : Runs) (room : ℕ) : Type 0 where
  pub fits : (weave table runs).count * entry_size ≤ room
  pub inside : (k : ℕ) → k < table.tasks → runs.start k < (table.task k).count
  pub near : (k n : ℕ) → k < table.tasks → n < runs.many k → (earliest table runs k n).arrival < ceiling
