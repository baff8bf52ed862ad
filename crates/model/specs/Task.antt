-- Frames, tasks and tables: document 01, "A table, record by record".
-- Assumes nothing.
use Rattle.std.specs.Prelude.{Bool, ℕ, ◌≤◌, ◌<◌}

-- A task by its frames' numbers, from 0 to count - 1, which come round in order.
-- "E is run time, D the deadline from arrival, P the least time to the next frame's arrival."
pub record Task : Type 0 where
  pub count : ℕ
  pub E : ℕ → ℕ
  pub D : ℕ → ℕ
  pub P : ℕ → ℕ

pub record Table : Type 0 where
  pub tasks : ℕ
  pub task : ℕ → Task

-- "E, D and P are each 1 to 65,535 .. 16 frames in a task"
pub record Proper (task : Task) : Type 0 where
  pub some : 1 ≤ task.count
  pub few : task.count ≤ 16
  pub runs : (i : ℕ) → i < task.count → 1 ≤ task.E i
  pub short : (i : ℕ) → i < task.count → task.E i ≤ 65535
  pub waits : (i : ℕ) → i < task.count → 1 ≤ task.D i
  pub soon : (i : ℕ) → i < task.count → task.D i ≤ 65535
  pub moves : (i : ℕ) → i < task.count → 1 ≤ task.P i
  pub often : (i : ℕ) → i < task.count → task.P i ≤ 65535

-- ".. 16 tasks"
pub record ProperTable (table : Table) : Type 0 where
  pub some : 1 ≤ table.tasks
  pub few : table.tasks ≤ 16
  pub proper : (k : ℕ) → k < table.tasks → Proper (table.task k)

-- a set of tasks, by their numbers
abbrev pub TaskSet : Type 0
TaskSet = ℕ → Bool
