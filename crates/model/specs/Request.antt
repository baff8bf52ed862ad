-- Requests, and which lists of them are legal: document 01, "A table, record by record". A list has any length, its
-- arrivals are any numbers, and it need not be sorted: length, limit and order are rules of "The replay bench".
-- Assumes nothing.
use Rattle.std.specs.Prelude.{Bool, ◌||◌, ◌≡◌, ◌⊎◌, ℕ, ◌+◌, ◌≤◌, ◌<◌, leb, eqb}
use Rattle.laws.specs.Sums.{tally}
use Rattle.model.specs.Task.{Table}
use Rattle.model.specs.Demand.{frame}

pub record Request : Type 0 where
  pub task : ℕ
  pub frame : ℕ
  pub arrival : ℕ

-- a list by its number of requests and the request at each index
pub record Requests : Type 0 where
  pub count : ℕ
  pub request : ℕ → Request

-- the two are the same request by request
pub record Same (list other : Requests) : Type 0 where
  pub count_is : list.count ≡ other.count
  pub request_is : (i : ℕ) → i < other.count → list.request i ≡ other.request i

-- how many of the first i requests are of task k
abbrev pub of_task : Requests → ℕ → ℕ → ℕ
of_task list k i = tally i (λ j. eqb (list.request j).task k)

-- the table has a task k, and the task a frame i
pub record HasFrame (table : Table) (k i : ℕ) : Type 0 where
  pub task : k < table.tasks
  pub frame : i < (table.task k).count

-- the tests whether it has not: "no such task or frame", "unknown task or frame"
abbrev pub no_task : Table → ℕ → Bool
no_task table k = leb table.tasks k

abbrev pub no_frame : Table → ℕ → ℕ → Bool
no_frame table k i = no_task table k || leb (table.task k).count i

-- no "frame of the table has D above its P"
abbrev pub FramesWithin : Table → Type 0
FramesWithin table = (k i : ℕ) → HasFrame table k i → (table.task k).D i ≤ (table.task k).P i

-- request j is the next of its task after request i
pub record Next (list : Requests) (i j : ℕ) : Type 0 where
  pub earlier : i < j
  pub same : (list.request i).task ≡ (list.request j).task
  pub between : (m : ℕ) → i < m → m < j → (list.request m).task ≡ (list.request j).task → ⊥

-- "A task's next request is its next frame, and comes at least P of the earlier frame after it": y, the next after x
pub record Follows (table : Table) (x y : Request) : Type 0 where
  pub frame_is : y.frame ≡ frame (table.task x.task) x.frame 1
  pub not_soon : x.arrival + (table.task x.task).P x.frame ≤ y.arrival

-- "A legal request list may start each task at any frame": nothing is asked of a task's first request but that it is
-- known
pub record Legal (table : Table) (list : Requests) : Type 0 where
  pub known : (i : ℕ) → i < list.count → HasFrame table (list.request i).task (list.request i).frame
  pub follows : (i j : ℕ) → j < list.count → Next list i j → Follows table (list.request i) (list.request j)

-- ---- the bench's rules

-- "sorted by arrival and at equal arrivals by strictly rising task number"
abbrev pub Before : Request → Request → Type 0
Before x y = (x.arrival < y.arrival) ⊎ ((x.arrival ≡ y.arrival) × (x.task < y.task))

abbrev pub Sorted : Requests → Type 0
Sorted list = (i j : ℕ) → i + 1 ≡ j → j < list.count → Before (list.request i) (list.request j)

-- "arrivals 0 to 65,535"
unfoldable pub last_arrival : ℕ
last_arrival = 65535
