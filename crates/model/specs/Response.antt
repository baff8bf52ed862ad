-- The response of a frame under fixed priorities: document 01, "Response of a frame".
-- Assumes nothing.
use Rattle.std.specs.Prelude.{Bool, cond, ◌||◌, ℕ, zero, suc, ◌+◌, ltb, eqb}
use Rattle.laws.specs.Sums.{sum, only}
use Rattle.laws.specs.Search.{least_from, place_or, first_greatest}
use Rattle.model.specs.Task.{Task, Table, TaskSet}
use Rattle.model.specs.Demand.{counted}

-- ---- the recurrence, whatever share the higher tasks take

-- "The first value is the frame's E. Each next value is E plus" the higher tasks' share, which is a function of the
-- previous value. "Values are numbered from 0."
unfoldable pub value : (ℕ → ℕ) → ℕ → ℕ → ℕ
value share e zero = e
value share e (suc n) = e + share (value share e n)

pub data Response : Type 0 where
  on_time : (value rounds : ℕ) → Response
  late : (value round : ℕ) → Response

-- value n passes D, or it is repeated
unfoldable pub settles : (ℕ → ℕ) → ℕ → ℕ → ℕ → Bool
settles share e d n = ltb d (value share e n) || eqb (value share e (suc n)) (value share e n)

-- "If a value passes D first: late, with that value and its index"; else "on time, with the value and the number of
-- rounds, which is the first index of the repeated value"
unfoldable pub settled_at : (ℕ → ℕ) → ℕ → ℕ → ℕ → Response
settled_at share e d n = cond (ltb d (value share e n)) (late (value share e n) n) (on_time (value share e n) n)

-- the first that passes or is repeated. It is among values 0 to d + 1: as long as none is repeated, value n is at
-- least n
unfoldable pub response_by : (ℕ → ℕ) → ℕ → ℕ → Response
response_by share e d = settled_at share e d (place_or 0 (least_from (settles share e d) (suc (suc d)) 0))

-- ---- the share

-- "its peak frame (greatest E, lowest number if equal)"
unfoldable pub peak_frame : Task → ℕ
peak_frame task = first_greatest task.E task.count

-- "the sum of E of frames with offset below the previous value, that task starting at its peak frame and arriving as
-- early as allowed": the cyclic sum of work, as in "Work of a task in a window w", from that one frame
unfoldable pub share_of : Task → ℕ → ℕ
share_of task w = counted task (λ i. 1) w (peak_frame task)

-- "for each higher task": what the tasks of a set take of w ticks together
unfoldable pub share_over : Table → TaskSet → ℕ → ℕ
share_over table higher w = sum table.tasks (λ j. only (higher j) (share_of (table.task j) w))

-- the response of frame i of task k, where these are the higher tasks
unfoldable pub response_over : Table → TaskSet → ℕ → ℕ → Response
response_over table higher k i = response_by (share_over table higher) ((table.task k).E i) ((table.task k).D i)

-- ---- who is higher

-- the tasks whose place is before that of task k, where each task has a place
abbrev pub above_by : (ℕ → ℕ) → ℕ → TaskSet
above_by place k j = ltb (place j) (place k)

-- "Priority is table order, task 0 highest.": a task's place is its number
abbrev pub above_in_table : ℕ → TaskSet
above_in_table k = above_by (λ j. j) k

abbrev pub higher_share : Table → ℕ → ℕ → ℕ
higher_share table k = share_over table (above_in_table k)

-- the response of frame i of task k
unfoldable pub response : Table → ℕ → ℕ → Response
response table k i = response_over table (above_in_table k) k i
