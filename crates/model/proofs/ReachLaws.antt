-- The greatest cyclic sum of one task by any reach: it is nothing at 0, it never falls, and a longer interval holds no
-- more than its two parts. Demand and work are its two cases, in DemandLaws.
-- Assumes nothing.
use mathlib.Core.Path.{◌≡◌, ap}
use mathlib.Core.Logic.{inl, inr}
use Prim.Native.Nat.{ℕ, zero, suc, ◌+◌, ◌-◌, ◌≤◌, ◌<◌}
use native.Mathlib.Nat.{zero-add, le_refl}
use native.Mathlib.Omega.{arith}
use Rattle.laws.proofs.Cases.{lt_or_le}
use Rattle.laws.proofs.SumLaws.{gate, sum_mono, sum_longer, greatest_ge, greatest_le, greatest_mono}
use Rattle.model.specs.Task.{Task}
use Rattle.model.specs.Demand.{frame, offset, part, counted, most}
use Rattle.model.proofs.CyclicLaws.{Moves, frame_lt, counted_zero, counted_on}

-- no start gives more than the greatest
pub counted_most : (task : Task) (reach : ℕ → ℕ) (t s : ℕ) → s < task.count
    → counted task reach t s ≤ most task reach t
counted_most task reach t s inside = greatest_ge (counted task reach t) task.count s inside

-- more time lets no frame out
pub counted_mono : (task : Task) (reach : ℕ → ℕ) (t u s : ℕ) → t ≤ u → counted task reach t s ≤ counted task reach u s
unfolding counted
counted_mono task reach t u s h =
    omega (
      arith,
      sum_mono (suc t) (part task reach t s) (part task reach u s) (λ n l. later n),
      sum_longer (suc t) (suc u) (part task reach u s) (omega arith),
    )
  where
    later : (n : ℕ) → part task reach t s n ≤ part task reach u s n
    later n =
        let due = offset task s n + reach (frame task s n) in
        let e = task.E (frame task s n) in
        elim (lt_or_le t due) [
          | inl out ↦ omega (arith, (gate due t e).shut out)
          | inr fits ↦ omega (arith, (gate due t e).most, (gate due u e).passes (omega arith))
        ]

pub most_mono : (task : Task) (reach : ℕ → ℕ) (t u : ℕ) → t ≤ u → most task reach t ≤ most task reach u
most_mono task reach t u h =
    greatest_mono task.count (counted task reach t) (counted task reach u)
    (λ s inside. counted_mono task reach t u s h)

module _ {task : Task} {reach : ℕ → ℕ} (moves : Moves task reach) where
  next_lt : (s : ℕ) → frame task s 1 < task.count
  next_lt s = frame_lt task moves.some s 1

  opened : Moves task (λ i. 1)
  opened = record { some = moves.some; gap = moves.gap; room = λ i h. le_refl 1 }

  pub most_zero : most task reach 0 ≡ 0
  most_zero = omega (
    arith,
    greatest_le (counted task reach 0) task.count 0
        (λ s l. omega (arith, counted_zero moves s)),
  )

  -- the first frame of a window is work in it
  work_on : (w s : ℕ) → s < task.count → 1 ≤ w
      → counted task (λ i. 1) w s ≡ task.E s + counted task (λ i. 1) (w - task.P s) (frame task s 1)
  work_on w s inside some = omega (arith, counted_on opened w s inside, (gate 1 w (task.E s)).passes some)

  split_none : (t s : ℕ) → s < task.count
      → counted task reach (0 + t) s ≤ counted task (λ i. 1) 0 s + most task reach t
  split_none t s inside = omega (
    arith,
    ap (λ (u : ℕ). counted task reach u s) (zero-add t),
    counted_most task reach t s inside,
  )

  -- from frame s: the frames with offset below w are work in w, the others begin anew
  split_from : (k w t s : ℕ) → w ≤ k → s < task.count
      → counted task reach (w + t) s ≤ counted task (λ i. 1) w s + most task reach t
  split_from zero zero t s h inside = split_none t s inside
  split_from zero (suc w) t s h inside = absurd (omega arith)
  split_from (suc k) zero t s h inside = split_none t s inside
  split_from (suc k) (suc w) t s h inside =
      let next = frame task s 1 in
      let whole = counted_on moves (suc w + t) s inside in
      let first = work_on (suc w) s inside (omega arith) in
      let head = (gate (reach s) (suc w + t) (task.E s)).most in
      let rest = split_from k (suc w - task.P s) t next (omega (arith, moves.gap s inside)) (next_lt s) in
      elim (lt_or_le (suc w) (task.P s)) [
        | inl past ↦
            omega (
              arith,
              counted_mono task reach (suc w + t - task.P s) t next (omega arith),
              counted_most task reach t next (next_lt s),
            )
        | inr back ↦ omega (arith, ap (λ (u : ℕ). counted task reach u next) (shorter (task.P s) back))
      ]
    where
      shorter : (p : ℕ) → p ≤ suc w → suc w + t - p ≡ suc w - p + t
      shorter p h = omega arith

  -- what w + t holds is at most the work in w and what t holds
  pub most_split : (w t : ℕ) → most task reach (w + t) ≤ most task (λ i. 1) w + most task reach t
  most_split w t =
      greatest_le (counted task reach (w + t)) task.count (most task (λ i. 1) w + most task reach t)
      (λ s inside. omega (
        arith,
        split_from w w t s (le_refl w) inside,
        greatest_ge (counted task (λ i. 1) w) task.count s inside,
      ))
