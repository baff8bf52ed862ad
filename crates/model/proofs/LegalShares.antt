-- What the requests of a set of tasks in a legal list ask of an interval, for any reach of their frames, is at most the
-- sum of these tasks' greatest cyclic sums at its length; it may begin at another time for each task. Each task's
-- requests are a run, whose bound is in RunLaws.
-- Assumes nothing.
use mathlib.Core.Bool.{Bool, true, false, ◌&&◌}
use mathlib.Core.Path.{◌≡◌, ◌∙◌, ap}
use mathlib.Core.Logic.{inl, inr}
use Prim.Native.Nat.{ℕ, ◌+◌, ◌-◌, ◌≤◌, ◌<◌}
use native.Mathlib.Omega.{arith}
use lib.Dec.{leb}
use Rattle.laws.specs.Sums.{sum, only}
use Rattle.laws.proofs.Cases.{lt_or_le}
use Rattle.laws.proofs.GateLaws.{only_zero}
use Rattle.laws.proofs.SumLaws.{sum_zero, sum_none, sum_cong, sum_mono}
use Rattle.laws.proofs.SumShares.{sum_shares}
use Rattle.laws.proofs.NthLaws.{nth_sum}
use Rattle.model.specs.Task.{Table, TaskSet}
use Rattle.model.specs.Demand.{frame, most}
use Rattle.model.specs.Run.{asked}
use Rattle.model.specs.Request.{Request, Requests, of_task, Legal}
use Rattle.model.proofs.CyclicLaws.{Moves}
use Rattle.model.proofs.RunLaws.{asked_most}
use Rattle.model.proofs.LegalRuns.{is_of, turn_of, first_frame, turn_frame, first_inside, legal_run}

module _ {table : Table} {list : Requests} (legal : Legal table list) where
  -- how many requests task k has
  abbrev many : ℕ → ℕ
  many k = of_task list k list.count

  module _ (reach : ℕ → ℕ → ℕ) (since : ℕ → ℕ) (b : ℕ) where
    -- whether a frame of task k that is requested at this time lies between `since k` and b
    abbrev pub request_lies : ℕ → ℕ → ℕ → Bool
    request_lies k i at = leb (since k) at && leb (at + reach k i) b

    -- what a request of task k asks of that time, where it counts
    abbrev pub request_asks : Bool → ℕ → Request → ℕ
    request_asks counts k r = only (counts && request_lies k r.frame r.arrival) ((table.task k).E r.frame)

    -- the requests of task k
    abbrev share : Bool → ℕ → ℕ
    share counts k = sum list.count (λ i. only (is_of list k i) (request_asks counts k (list.request i)))

    share_turns : (k : ℕ) → share true k ≡ sum (many k) (λ n. request_asks true k (turn_of list k n))
    share_turns k = nth_sum (is_of list k) list.count (λ i. request_asks true k (list.request i))

    share_none : (k : ℕ) → many k ≡ 0 → share true k ≡ 0
    share_none k none =
        share_turns k ∙ ap (λ (m : ℕ). sum m (λ n. request_asks true k (turn_of list k n))) none ∙ sum_zero _

    share_asked : (k : ℕ) → let arrive : ℕ → ℕ = λ n. (turn_of list k n).arrival in
        share true k ≡ asked (table.task k) (reach k) (first_frame list k) (many k) arrive (since k) b
    unfolding asked
    share_asked k =
        let one : ℕ → ℕ → ℕ = λ n i. only (request_lies k i (turn_of list k n).arrival) ((table.task k).E i) in
        share_turns k
        ∙ sum_cong (many k) (λ n. one n (turn_of list k n).frame)
        (λ n. one n (frame (table.task k) (first_frame list k) n))
        (λ n inside. ap (one n) (turn_frame legal k n inside))

    share_most : (counts : Bool) (k : ℕ) → Moves (table.task k) (reach k)
        → share counts k ≤ only counts (most (table.task k) (reach k) (b - since k))
    share_most true k moves =
        elim (lt_or_le 0 (many k)) [
          | inl some ↦
              omega (
                arith,
                share_asked k,
                asked_most moves (since k) b (many k) (first_frame list k) (λ n. (turn_of list k n).arrival)
                    (first_inside legal k some) (legal_run legal k),
              )
          | inr none ↦ omega (arith, share_none k (omega arith))
        ]
    share_most false k moves =
        omega (arith, sum_none list.count (λ i. only (is_of list k i) 0) (λ i inside. only_zero (is_of list k i)))

    -- the requests of a set of tasks
    pub legal_most : (set : TaskSet) → ((k : ℕ) → k < table.tasks → Moves (table.task k) (reach k))
        → sum list.count (λ i. request_asks (set (list.request i).task) (list.request i).task (list.request i))
        ≤ sum table.tasks (λ k. only (set k) (most (table.task k) (reach k) (b - since k)))
    legal_most set moves =
        omega (
          arith,
          sum_shares table.tasks list.count (λ i. (list.request i).task)
              (λ k i. request_asks (set k) k (list.request i)) (λ i inside. (legal.known i inside).task),
          sum_mono table.tasks (λ k. share (set k) k)
              (λ k. only (set k) (most (table.task k) (reach k) (b - since k)))
              (λ k inside. share_most (set k) k (moves k inside)),
        )
