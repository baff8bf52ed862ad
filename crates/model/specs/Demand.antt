-- Demand, work and margin: document 01, "What the desk computes".
-- Assumes nothing.
use Rattle.std.specs.Prelude.{ℕ, zero, suc, ◌+◌, ◌%◌, leb, ℤ}
use Rattle.std.proofs.Math.IntN.{sub_ℕ}
use Rattle.laws.specs.Sums.{sum, only, greatest}
use Rattle.laws.specs.Search.{first_greatest}
use Rattle.model.specs.Task.{Task, Table}

-- "A task's frames come round in order": the n-th after frame s
unfoldable pub frame : Task → ℕ → ℕ → ℕ
frame task s n = (s + n) % task.count

-- "Start at frame s at time 0 and let each next frame come as early as allowed."
unfoldable pub offset : Task → ℕ → ℕ → ℕ
offset task s zero = 0
offset task s (suc n) = offset task s n + task.P (frame task s n)

-- E of the n-th frame from frame s, where its offset plus reach is at most t
abbrev pub part : Task → (ℕ → ℕ) → ℕ → ℕ → ℕ → ℕ
part task reach t s n = only (leb (offset task s n + reach (frame task s n)) t) (task.E (frame task s n))

-- The cyclic sum from frame s: E of every frame whose offset plus reach is at most t.
-- "Every frame that fits counts, also one after a frame that doesn't; no ordering of deadlines is presumed."
-- Turns 0 to t are all that can count: each P is at least 1, so the frame of turn n comes at n or later.
unfoldable pub counted : Task → (ℕ → ℕ) → ℕ → ℕ → ℕ
counted task reach t s = sum (suc t) (part task reach t s)

-- "The greatest such sum over all s"
abbrev pub most : Task → (ℕ → ℕ) → ℕ → ℕ
most task reach t = greatest task.count (counted task reach t)

-- the lowest frame number that gives it
unfoldable pub lowest : Task → (ℕ → ℕ) → ℕ → ℕ
lowest task reach t = first_greatest (counted task reach t) task.count

-- "Add E of every frame whose offset plus D is at most t. The demand is the greatest such sum over all s."
unfoldable pub demand : Task → ℕ → ℕ
demand task t = most task task.D t

-- "As demand, but add E of frames whose offset is below w": offset + 1 is at most w
unfoldable pub work : Task → ℕ → ℕ
work task w = most task (λ i. 1) w

unfoldable pub all_demands : Table → ℕ → ℕ
all_demands table t = sum table.tasks (λ k. demand (table.task k) t)

unfoldable pub all_work : Table → ℕ → ℕ
all_work table w = sum table.tasks (λ k. work (table.task k) w)

-- "Margin at t is t minus the sum of all tasks' demands, a signed number."
abbrev pub margin : Table → ℕ → ℤ
margin table t = sub_ℕ t (all_demands table t)
