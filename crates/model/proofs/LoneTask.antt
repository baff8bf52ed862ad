-- A table of one sporadic task, written (e,d,p): its work and its demand are the sum from its one frame, its start is
-- frame 0, and up to p one request of it counts, or none.
-- Assumes nothing.
use mathlib.Core.Path.{◌≡◌, ap, subst, ◌∙◌}
use Prim.Native.Nat.{ℕ, ◌-◌, ◌≤◌, ◌<◌}
use native.Mathlib.Nat.{zero-add}
use native.Mathlib.Omega.{arith}
use lib.Dec.{leb}
use Rattle.laws.specs.Sums.{sum, only, greatest}
use Rattle.laws.proofs.SumLaws.{greatest_ge, greatest_le}
use Rattle.model.specs.Task.{Task, Table, Proper, ProperTable}
use Rattle.model.specs.Demand.{frame, counted, demand, work, all_demands, all_work}
use Rattle.model.specs.Verdict.{start}
use Rattle.model.specs.VerdictMeaning.{StartsAt}
use Rattle.model.proofs.CyclicLaws.{Moves, frame_lt, counted_zero, counted_on}
use Rattle.model.proofs.DemandLaws.{demand_most, work_most}
use Rattle.model.proofs.StartLaws.{start_right}

pub record Lone (table : Table) (e d p : ℕ) : Type 0 where
  pub one_task : table.tasks ≡ 1
  pub one_frame : (table.task 0).count ≡ 1
  pub e_is : (table.task 0).E 0 ≡ e
  pub d_is : (table.task 0).D 0 ≡ d
  pub p_is : (table.task 0).P 0 ≡ p

-- ---- one of one

sum_lone : (n : ℕ) (f : ℕ → ℕ) → n ≡ 1 → sum n f ≡ f 0
unfolding sum
sum_lone n f one = rw one (zero-add (f 0))

greatest_lone : (n : ℕ) (f : ℕ → ℕ) → n ≡ 1 → greatest n f ≡ f 0
greatest_lone n f one =
    omega (
      arith,
      greatest_ge f n 0 (omega arith),
      greatest_le f n (f 0) (λ i inside. omega (arith, ap f (none i inside))),
    )
  where
    none : (i : ℕ) → i < n → i ≡ 0
    none i inside = omega arith

-- ---- the task

module _ {task : Task} {reach : ℕ → ℕ} (moves : Moves task reach) (one : task.count ≡ 1) where
  -- after frame 0 comes frame 0
  pub frame_lone : frame task 0 1 ≡ 0
  frame_lone = omega (arith, frame_lt task moves.some 0 1)

  pub counted_first : (t : ℕ) → t ≤ task.P 0 → counted task reach t 0 ≡ only (leb (reach 0) t) (task.E 0)
  counted_first t within =
      let none : t - task.P 0 ≡ 0 = omega arith in
      let rest = rw none at (counted_on moves t 0 (omega arith)) in
      omega (arith, rest, counted_zero moves (frame task 0 1))

-- ---- the table

module _ {table : Table} {e d p : ℕ} (good : ProperTable table) (lone : Lone table e d p) where
  abbrev pub lone_task : Task
  lone_task = table.task 0

  pub lone_proper : Proper lone_task
  lone_proper = good.proper 0 (omega (arith, good.some))

  pub work_lone : (w : ℕ) → all_work table w ≡ counted lone_task (λ i. 1) w 0
  unfolding all_work
  work_lone w =
      sum_lone table.tasks (λ k. work (table.task k) w) lone.one_task
      ∙ work_most lone_task w
      ∙ greatest_lone lone_task.count (counted lone_task (λ i. 1) w) lone.one_frame

  pub demands_lone : (t : ℕ) → all_demands table t ≡ counted lone_task lone_task.D t 0
  unfolding all_demands
  demands_lone t =
      sum_lone table.tasks (λ k. demand (table.task k) t) lone.one_task
      ∙ demand_most lone_task t
      ∙ greatest_lone lone_task.count (counted lone_task lone_task.D t) lone.one_frame

  pub start_lone : (t : ℕ) → StartsAt lone_task t 0
  start_lone t = subst (StartsAt lone_task t) first starts
    where
      starts : StartsAt lone_task t (start lone_task t)
      starts = start_right lone_proper t

      first : start lone_task t ≡ 0
      first = omega (arith, starts.inside, lone.one_frame)
