-- What a list asks of an interval from a to b, where it is woven of each task's requests up to the last that is due by
-- b, from any first arrivals on: of each task the cyclic sum from its start, in the time that it has. And no request
-- comes at b or later.
-- Assumes nothing.
use mathlib.Core.Bool.{◌&&◌}
use mathlib.Core.Path.{◌≡◌, sym, ◌∙◌, ap}
use Prim.Native.Nat.{ℕ, ◌+◌, ◌≤◌, ◌<◌}
use native.Mathlib.Omega.{arith}
use lib.Dec.{leb}
use Rattle.laws.specs.Sums.{sum, only}
use Rattle.laws.proofs.SumLaws.{sum_cong}
use Rattle.model.specs.Task.{Table, ProperTable}
use Rattle.model.specs.Demand.{part, counted}
use Rattle.model.specs.Run.{asked}
use Rattle.model.specs.Request.{Request, Requests, of_task}
use Rattle.model.specs.Jobs.{jobs_of}
use Rattle.model.specs.Weave.{Runs, earliest, Woven}
use Rattle.model.specs.Overload.{requests_by}
use Rattle.model.specs.Schedule.{due_within}
use Rattle.model.proofs.RunLaws.{earliest_sum}
use Rattle.model.proofs.DueLaws.{run_near, requests_counted}
use Rattle.model.proofs.WovenSums.{woven_sum}
use Rattle.model.proofs.WovenOne.{woven_left}

-- no task's first request comes before a; it has `time k` ticks until b, and its requests go up to the last that is due
-- by then
pub record RunsBetween (table : Table) (runs : Runs) (time : ℕ → ℕ) (a b : ℕ) : Type 0 where
  pub none_before : (k : ℕ) → k < table.tasks → a ≤ runs.from k
  pub until : (k : ℕ) → k < table.tasks → runs.from k + time k ≡ b
  pub many_are : (k : ℕ) → k < table.tasks → runs.many k ≡ requests_by (table.task k) (runs.start k) (time k)

module _ {table : Table} (good : ProperTable table) {runs : Runs} {time : ℕ → ℕ} {a b : ℕ}
    (between : RunsBetween table runs time a b) where
  -- what a request asks of the interval
  abbrev asks : Request → ℕ
  asks r =
      let task = table.task r.task in
      only (leb a r.arrival && leb (r.arrival + task.D r.frame) b) (task.E r.frame)

  -- what task k asks, from its start on
  abbrev sum_from : ℕ → ℕ
  sum_from k = counted (table.task k) (table.task k).D (time k) (runs.start k)

  share_is : (k : ℕ) → k < table.tasks → sum (runs.many k) (λ n. asks (earliest table runs k n)) ≡ sum_from k
  unfolding asked
  share_is k inside =
      let task = table.task k in
      let s = runs.start k in
      rw (sym (between.until k inside))
      (earliest_sum task s (runs.many k) (runs.from k) task.D a (time k) (between.none_before k inside))
      ∙ ap (λ (m : ℕ). sum m (part task task.D (time k) s)) (between.many_are k inside)
      ∙ requests_counted (good.proper k inside) s (time k)

  pub earliest_near : (k n : ℕ) → k < table.tasks → n < runs.many k → (earliest table runs k n).arrival < b
  earliest_near k n inside made =
      omega (
        arith,
        run_near (good.proper k inside) (runs.start k) (time k) n (rw (between.many_are k inside) at made),
        between.until k inside,
      )

  module _ {list : Requests} (woven : Woven table runs list) where
    pub woven_asks : due_within (jobs_of table list) a b ≡ sum table.tasks sum_from
    unfolding due_within
    woven_asks =
        woven_sum woven asks
        ∙ sum_cong table.tasks (λ k. sum (runs.many k) (λ n. asks (earliest table runs k n))) sum_from share_is

    pub woven_near : (i : ℕ) → i < list.count → (list.request i).arrival < b
    woven_near i inside =
        let k = (list.request i).task in
        rw (woven.in_turn i inside)
        (earliest_near k (of_task list k i) (woven.known i inside) (woven_left woven i inside))
