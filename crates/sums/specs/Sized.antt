-- What the sums give, how large it is, and how far they are proved.
-- Assumes nothing.
use Rattle.std.specs.Prelude.{◌≡◌, ℕ, ◌+◌, ◌*◌, ◌≤◌, ◌<◌}
use Rattle.laws.specs.Sums.{sum}
use Rattle.model.specs.Task.{Task, Table}
use Rattle.model.specs.Demand.{counted, most, lowest, demand, work}
use Rattle.model.specs.Verdict.{start}
use Rattle.sums.specs.declared.asked.Sum.{Sum}
use Rattle.sums.specs.declared.asked.Sum.TheVariants.{Demand, Work}
use Rattle.sums.specs.declared.peak.Peak.{Peak}

-- every t and window that the desk will answer is at most this, whatever its horizon. A clause and no type: such a
-- number is only counted and compared
abbrev pub ceiling : ℕ
ceiling = 1048576

-- the greatest number of 16 bits: no E, D or P is greater
abbrev pub largest : ℕ
largest = 65535

-- how far a cyclic sum is counted: to a question's t, and one D or P more
abbrev pub far : ℕ
far = ceiling + largest

-- the most that one task asks in t ticks, and that all tasks ask, sixteen at the most: the greatest E in each tick
abbrev pub bound : ℕ → ℕ
bound t = largest * t

abbrev pub bound_all : ℕ → ℕ
bound_all t = 16 * bound t

-- by which condition a frame counts: for demand, its offset plus D is at most t; for work, its offset is below t
abbrev pub reach_by : Sum → Task → ℕ → ℕ
reach_by Demand task i = task.D i
reach_by Work task i = 1

-- the demand of a task, or its work; the lowest start that gives it; and of all tasks
abbrev pub peak_by : Sum → Task → ℕ → ℕ
peak_by Demand task t = demand task t
peak_by Work task t = work task t

abbrev pub start_by : Sum → Task → ℕ → ℕ
start_by Demand task t = start task t
start_by Work task t = lowest task (λ i. 1) t

unfoldable pub total_by : Sum → Table → ℕ → ℕ
total_by which table t = sum table.tasks (λ k. peak_by which (table.task k) t)

-- ---- what is ensured

pub record Summed (task : Task) (which : Sum) (t start r : ℕ) : Type 0 where
  pub is : r ≡ counted task (reach_by which task) t start
  pub at_most : r ≤ largest * t

-- the greatest cyclic sum to t over all starts, and the lowest start that gives it
pub record Greatest (task : Task) (which : Sum) (t : ℕ) (r : Peak) : Type 0 where
  pub sum_is : r.sum ≡ most task (reach_by which task) t
  pub start_is : r.start ≡ lowest task (reach_by which task) t
  pub inside : r.start < task.count
  pub at_most : r.sum ≤ largest * t

-- the demand of a task at t, or its work in t, and where it starts
pub record Peaks (task : Task) (which : Sum) (t : ℕ) (r : Peak) : Type 0 where
  pub sum_is : r.sum ≡ peak_by which task t
  pub start_is : r.start ≡ start_by which task t
  pub inside : r.start < task.count
  pub at_most : r.sum ≤ bound t

pub record Total (table : Table) (which : Sum) (t r : ℕ) : Type 0 where
  pub is : r ≡ total_by which table t
  pub at_most : r ≤ bound_all t
