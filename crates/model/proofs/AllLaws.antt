-- Laws of the demands and the work of all tasks: the demands never fall, a longer interval asks no more than its two
-- parts, and no time asks nothing.
-- Assumes nothing.
use mathlib.Core.Path.{◌≡◌}
use Prim.Native.Nat.{ℕ, ◌+◌, ◌≤◌}
use native.Mathlib.Omega.{arith}
use lib.IntN.{pos}
use Rattle.laws.proofs.SumLaws.{sum_mono, sum_+, sum_none}
use Rattle.model.specs.Task.{Table, ProperTable}
use Rattle.model.specs.Demand.{demand, work, all_demands, all_work, margin}
use Rattle.model.proofs.DemandLaws.{demand_zero, demand_mono, demand_split}

pub all_demands_mono : (table : Table) (t u : ℕ) → t ≤ u → all_demands table t ≤ all_demands table u
unfolding all_demands
all_demands_mono table t u order =
    sum_mono table.tasks (λ k. demand (table.task k) t) (λ k. demand (table.task k) u)
    (λ k inside. demand_mono (table.task k) t u order)

pub all_demands_split : {table : Table} → ProperTable table → (w t : ℕ)
    → all_demands table (w + t) ≤ all_work table w + all_demands table t
unfolding all_demands all_work
all_demands_split {table} good w t =
    omega (
      arith,
      sum_mono table.tasks (λ k. demand (table.task k) (w + t))
          (λ k. work (table.task k) w + demand (table.task k) t)
          (λ k inside. demand_split (good.proper k inside) w t),
      sum_+ table.tasks (λ k. work (table.task k) w) (λ k. demand (table.task k) t),
    )

pub all_demands_zero : {table : Table} → ProperTable table → all_demands table 0 ≡ 0
unfolding all_demands
all_demands_zero {table} good =
    sum_none table.tasks (λ k. demand (table.task k) 0)
    (λ k inside. demand_zero (good.proper k inside))

-- "the margin at 0 is 0"
pub margin_zero : {table : Table} → ProperTable table → margin table 0 ≡ pos 0
margin_zero good = rw (all_demands_zero good)
