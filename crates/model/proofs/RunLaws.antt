-- What any run of a task's requests asks of an interval is at most the greatest cyclic sum at its length.
-- Assumes nothing.
use mathlib.Core.Bool.{Bool, true, false, ◌&&◌}
use mathlib.Core.Path.{◌≡◌, sym, ◌∙◌, ap, ap₂}
use mathlib.Core.Logic.{inl, inr}
use Prim.Native.Nat.{ℕ, zero, suc, ◌+◌, ◌-◌, ◌≤◌, ◌<◌}
use native.Mathlib.Nat.{le_refl}
use native.Mathlib.Omega.{arith}
use lib.Dec.{leb}
use borrow.Author.Tests.{le-leb, lt-leb}
use Rattle.laws.specs.Sums.{sum, only}
use Rattle.laws.proofs.Cases.{lt_or_le}
use Rattle.laws.proofs.SumLaws.{gate, sum_zero, sum_head, sum_cong}
use Rattle.model.specs.Task.{Task}
use Rattle.model.specs.Demand.{frame, offset, part, counted, most}
use Rattle.model.specs.Run.{Run, asked}
use Rattle.model.proofs.CyclicLaws.{Moves, frame_lt, frame_none, frame_on, offset_next, counted_turns, counted_on}
use Rattle.model.proofs.ReachLaws.{counted_mono, counted_most}

both_most : (x y : Bool) (e : ℕ) → only (x && y) e ≤ only y e
both_most true y e = le_refl (only y e)
both_most false y e = omega arith

module _ {task : Task} {reach : ℕ → ℕ} (moves : Moves task reach) (a b : ℕ) where
  -- what one request asks
  one : ℕ → ℕ → ℕ
  one at i = only (leb a at && leb (at + reach i) b) (task.E i)

  one_most : (at i : ℕ) → one at i ≤ only (leb (reach i) (b - at)) (task.E i)
  unfolding one
  one_most at i =
      elim (lt_or_le b (at + reach i)) [
        | inl out ↦ omega (
          arith,
          both_most (leb a at) (leb (at + reach i) b) (task.E i),
          (gate (at + reach i) b (task.E i)).shut out,
        )
        | inr fits ↦
            omega (
              arith,
              both_most (leb a at) (leb (at + reach i) b) (task.E i),
              (gate (at + reach i) b (task.E i)).most,
              (gate (reach i) (b - at) (task.E i)).passes (omega arith),
            )
      ]

  one_early : (at i : ℕ) → at < a → one at i ≡ 0
  unfolding one
  one_early at i early = rw (lt-leb a at early)

  asked_none : (s : ℕ) (arrive : ℕ → ℕ) → asked task reach s 0 arrive a b ≡ 0
  unfolding asked
  asked_none s arrive = sum_zero _

  asked_on : (s m : ℕ) (arrive : ℕ → ℕ) → s < task.count
      → asked task reach s (suc m) arrive a b
      ≡ one (arrive 0) s + asked task reach (frame task s 1) m (λ n. arrive (suc n)) a b
  unfolding asked one
  asked_on s m arrive inside =
      sum_head m (λ n. one (arrive n) (frame task s n))
      ∙ ap₂ ◌+◌ (ap (one (arrive 0)) (frame_none task s inside))
      (sum_cong m (λ n. one (arrive (suc n)) (frame task s (suc n)))
      (λ n. one (arrive (suc n)) (frame task (frame task s 1) n))
      (λ n h. ap (one (arrive (suc n))) (frame_on task s n)))

  run_on : (s m : ℕ) (arrive : ℕ → ℕ) → Run task s (suc m) arrive → Run task (frame task s 1) m (λ n. arrive (suc n))
  run_on s m arrive run n h = omega (arith, run (suc n) (omega arith), ap task.P (frame_on task s n))

  -- from frame s, with the first request at x or later
  late : (m s x : ℕ) (arrive : ℕ → ℕ) → s < task.count → Run task s m arrive → (0 < m → x ≤ arrive 0)
      → asked task reach s m arrive a b ≤ counted task reach (b - x) s
  late zero s x arrive inside run first = omega (arith, asked_none s arrive)
  late (suc m) s x arrive inside run first =
      let gap = ap task.P (frame_none task s inside) in
      let rest = late m (frame task s 1) (arrive 0 + task.P s) (λ n. arrive (suc n)) (frame_lt task moves.some s 1)
      (run_on s m arrive run) (λ some. omega (arith, run 0 (omega arith))) in
      let less : b - (arrive 0 + task.P s) ≡ b - arrive 0 - task.P s = omega arith in
      omega (
        arith,
        asked_on s m arrive inside,
        one_most (arrive 0) s,
        ap (λ (u : ℕ). counted task reach u (frame task s 1)) less,
        counted_on moves (b - arrive 0) s inside,
        counted_mono task reach (b - arrive 0) (b - x) s (omega (arith, first (omega arith))),
      )

  pub asked_most : (m s : ℕ) (arrive : ℕ → ℕ) → s < task.count → Run task s m arrive
      → asked task reach s m arrive a b ≤ most task reach (b - a)
  asked_most zero s arrive inside run = omega (arith, asked_none s arrive)
  asked_most (suc m) s arrive inside run =
      let rest = asked_most m (frame task s 1) (λ n. arrive (suc n)) (frame_lt task moves.some s 1)
      (run_on s m arrive run) in
      elim (lt_or_le (arrive 0) a) [
        | inl early ↦ omega (arith, asked_on s m arrive inside, one_early (arrive 0) s early)
        | inr in_time ↦
            omega (
              arith,
              late (suc m) s a arrive inside run (λ some. in_time),
              counted_most task reach (b - a) s inside,
            )
      ]

-- ---- the earliest arrivals, from any first one on

module _ (task : Task) (s m from : ℕ) where
  abbrev arrives : ℕ → ℕ
  arrives n = from + offset task s n

  pub earliest_run : Run task s m arrives
  earliest_run n h = omega (arith, offset_next task s n)

  -- of an interval that begins no later than they and ends t ticks after the first they ask the cyclic sum at t
  pub earliest_sum : (reach : ℕ → ℕ) (a t : ℕ) → a ≤ from
      → asked task reach s m arrives a (from + t) ≡ sum m (part task reach t s)
  unfolding asked
  earliest_sum reach a t begins =
      sum_cong m (λ n. only (leb a (arrives n) && due n) (task.E (frame task s n))) (part task reach t s)
      (λ n h. rw (le-leb a (arrives n) (omega arith), as_far (offset task s n) (reach (frame task s n))))
    where
      due : ℕ → Bool
      due n = leb (arrives n + reach (frame task s n)) (from + t)

      as_far : (off r : ℕ) → leb (from + off + r) (from + t) ≡ leb (off + r) t
      as_far off r =
          elim (lt_or_le t (off + r)) [
            | inl out ↦ lt-leb (from + off + r) (from + t) (omega arith) ∙ sym (lt-leb (off + r) t out)
            | inr fits ↦ le-leb (from + off + r) (from + t) (omega arith) ∙ sym (le-leb (off + r) t fits)
          ]

  -- the bound is met
  pub earliest_asked : {reach : ℕ → ℕ} → Moves task reach → (t : ℕ) → t ≤ m
      → asked task reach s m arrives from (from + t) ≡ counted task reach t s
  earliest_asked {reach} moves t enough =
      earliest_sum reach from t (le_refl from) ∙ counted_turns moves m t s enough
