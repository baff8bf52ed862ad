-- The overload list asks of the time up to t the demand at t, has a request where there is a demand, and none that
-- comes at t or later. Nothing is used of the list but that it is woven from the overload's runs, each of which goes up
-- to the last request that is due by t.
-- Assumes nothing.
use mathlib.Core.Path.{◌≡◌, refl, ◌∙◌}
use Prim.Native.Nat.{ℕ, ◌<◌}
use native.Mathlib.Omega.{arith}
use Rattle.laws.proofs.SumLaws.{sum_cong}
use Rattle.model.specs.Task.{Table, ProperTable}
use Rattle.model.specs.Demand.{counted, demand, all_demands}
use Rattle.model.specs.Verdict.{start}
use Rattle.model.specs.Request.{Requests}
use Rattle.model.specs.Jobs.{jobs_of}
use Rattle.model.specs.Weave.{earliest, Woven}
use Rattle.model.specs.Overload.{overload_runs}
use Rattle.model.specs.Schedule.{due_within}
use Rattle.model.proofs.StartLaws.{start_right}
use Rattle.model.proofs.ScheduleLaws.{due_some}
use Rattle.model.proofs.WovenDue.{RunsBetween, earliest_near, woven_asks, woven_near}

module _ {table : Table} (good : ProperTable table) (t : ℕ) where
  pub overload_inside : (k : ℕ) → k < table.tasks → start (table.task k) t < (table.task k).count
  overload_inside k inside = (start_right (good.proper k inside) t).inside

  -- every task has the t ticks from 0 on
  overload_between : RunsBetween table (overload_runs table t) (λ k. t) 0 t
  overload_between =
      record {
        none_before = λ k inside. omega arith;
        until = λ k inside. omega arith;
        many_are = λ k inside. refl;
      }

  -- none of their requests comes at t or later
  pub overload_before : (k n : ℕ) → k < table.tasks → n < (overload_runs table t).many k
      → (earliest table (overload_runs table t) k n).arrival < t
  overload_before = earliest_near good overload_between

  module _ (list : Requests) (woven : Woven table (overload_runs table t) list) where
    -- the sum from a task's start is its demand
    pub overload_asks : due_within (jobs_of table list) 0 t ≡ all_demands table t
    unfolding all_demands
    overload_asks =
        woven_asks good overload_between woven
        ∙ sum_cong table.tasks
        (λ k. counted (table.task k) (table.task k).D t (start (table.task k) t))
        (λ k. demand (table.task k) t)
        (λ k inside. (start_right (good.proper k inside) t).gives)

    pub overload_some : 0 < all_demands table t → 0 < list.count
    overload_some some = due_some (jobs_of table list) 0 t (omega (arith, overload_asks))

    pub overload_near : (i : ℕ) → i < list.count → (list.request i).arrival < t
    overload_near = woven_near good overload_between woven
