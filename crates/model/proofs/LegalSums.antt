-- What a legal list asks of an interval is at most the table's demand, or its work, at the interval's length: one law
-- for the requests of any set of tasks, each from its release until any end of it, and its uses.
-- Assumes nothing.
use mathlib.Core.Bool.{true, ◌&&◌}
use mathlib.Core.Path.{◌≡◌, ap}
use Prim.Native.Nat.{ℕ, suc, ◌+◌, ◌-◌, ◌≤◌, ◌<◌}
use native.Mathlib.Omega.{arith}
use lib.Dec.{leb}
use borrow.Author.Tests.{leb-true, le-leb}
use Rattle.laws.specs.Sums.{sum, only}
use Rattle.laws.proofs.Every.{and_true_left, and_true_right}
use Rattle.laws.proofs.GateLaws.{only_wider, only_mono}
use Rattle.laws.proofs.SumLaws.{sum_cong, sum_mono}
use Rattle.model.specs.Task.{Table, ProperTable, TaskSet}
use Rattle.model.specs.Demand.{most, demand, work, all_demands, all_work}
use Rattle.model.specs.Request.{Requests, Legal}
use Rattle.model.specs.Jobs.{Jobs, jobs_of}
use Rattle.model.specs.Schedule.{due_within}
use Rattle.model.specs.Service.{every_job, came}
use Rattle.model.proofs.CyclicLaws.{Moves}
use Rattle.model.proofs.DemandLaws.{demand_moves, work_moves, demand_most, work_most, work_mono}
use Rattle.model.proofs.LegalShares.{request_lies, request_asks, legal_most}

module _ {table : Table} {list : Requests} (legal : Legal table list) where
  abbrev jobs : Jobs
  jobs = jobs_of table list

  -- each request's end is past its release, and no nearer than the reach of its frame; by that reach, `peak k` is the
  -- greatest sum of task k
  pub record Ends (reach : ℕ → ℕ → ℕ) (ends : ℕ → ℕ) (peak : ℕ → ℕ → ℕ) : Type 0 where
    pub after : (i : ℕ) → i < list.count → jobs.release i < ends i
    pub far : (i : ℕ) → i < list.count
        → (list.request i).arrival + reach (list.request i).task (list.request i).frame ≤ ends i
    pub moves : (k : ℕ) → k < table.tasks → Moves (table.task k) (reach k)
    pub greatest : (k t : ℕ) → peak k t ≡ most (table.task k) (reach k) t

  module _ {reach peak : ℕ → ℕ → ℕ} {ends : ℕ → ℕ} (end : Ends reach ends peak) (set : TaskSet) (a b : ℕ) where
    -- what request i asks: it is of the set, is released at a or later and ends by b
    abbrev released : ℕ → ℕ
    released i = only (set (list.request i).task && (leb a (jobs.release i) && leb (ends i) b)) (jobs.amount i)

    released_lies : (i : ℕ) → i < list.count → let r = list.request i in
        released i ≤ request_asks legal reach (λ k. a) b (set r.task) r.task r
    released_lies i inside =
        let r = list.request i in
        let in_set = set r.task in
        let since = leb a (jobs.release i) in
        let until = leb (ends i) b in
        let between = request_lies legal reach (λ k. a) b r.task r.frame r.arrival in
        only_wider (in_set && (since && until)) (in_set && between) (jobs.amount i) λ passes.
        let timely = and_true_right in_set (since && until) passes in
        let ended = leb-true (ends i) b (and_true_right since until timely) in
        rw (
          and_true_left in_set (since && until) passes,
          and_true_left since until timely,
          le-leb (r.arrival + reach r.task r.frame) b (omega (arith, end.far i inside)),
        )

    legal_released : sum list.count released ≤ sum table.tasks (λ k. only (set k) (peak k (b - a)))
    legal_released =
        omega (
          arith,
          sum_mono list.count released _ released_lies,
          legal_most legal reach (λ k. a) b set end.moves,
          sum_cong table.tasks (λ k. only (set k) (peak k (b - a)))
              (λ k. only (set k) (most (table.task k) (reach k) (b - a)))
              (λ k inside. ap (only (set k)) (end.greatest k (b - a))),
        )

-- ---- the document's two

module _ {table : Table} (good : ProperTable table) {list : Requests} (legal : Legal table list) where
  -- a request ends when it is due
  pub due_ends : Ends legal (λ k. (table.task k).D) (jobs_of table list).due (λ k. demand (table.task k))
  due_ends =
      record {
        after = λ i inside.
            let known = legal.known i inside in
            omega (arith, (good.proper _ known.task).waits (list.request i).frame known.frame);
        far = λ i inside. omega arith;
        moves = λ k inside. demand_moves (good.proper k inside);
        greatest = λ k. demand_most (table.task k);
      }

  pub legal_due : (a b : ℕ) → due_within (jobs_of table list) a b ≤ all_demands table (b - a)
  unfolding due_within all_demands
  legal_due = legal_released legal due_ends (λ k. true)

  -- or with the tick of its release
  tick_ends : Ends legal (λ k i. 1) (λ i. suc ((jobs_of table list).release i)) (λ k. work (table.task k))
  tick_ends =
      record {
        after = λ i inside. omega arith;
        far = λ i inside. omega arith;
        moves = λ k inside. work_moves (good.proper k inside);
        greatest = λ k. work_most (table.task k);
      }

  -- the work that a set of tasks brings into w ticks
  pub legal_came_of : (set : TaskSet) (a w : ℕ)
      → came (jobs_of table list) (λ i. set (list.request i).task) a (a + w)
      ≤ sum table.tasks (λ k. only (set k) (work (table.task k) w))
  unfolding came
  legal_came_of set a w =
      omega (
        arith,
        legal_released legal tick_ends set a (a + w),
        sum_mono table.tasks (λ k. only (set k) (work (table.task k) (a + w - a)))
            (λ k. only (set k) (work (table.task k) w))
            (λ k inside. only_mono (set k) _ _ (work_mono (table.task k) (a + w - a) w (omega arith))),
      )

  pub legal_came : (a w : ℕ) → came (jobs_of table list) every_job a (a + w) ≤ all_work table w
  unfolding all_work
  legal_came = legal_came_of (λ k. true)
