-- Laws of the share that a higher task takes from its peak frame on. These are the laws to redo if another share is put
-- in: all that the others ask of it is that it never falls.
-- Assumes nothing.
use mathlib.Core.Path.{◌≡◌, ap, subst}
use Prim.Native.Nat.{ℕ, suc, ◌-◌, ◌≤◌, ◌<◌}
use native.Mathlib.Nat.{le_refl}
use native.Mathlib.Omega.{arith}
use lib.Dec.{ltb}
use Rattle.laws.specs.Sums.{sum, only}
use Rattle.laws.proofs.Cases.{neither_lower}
use Rattle.laws.proofs.SumLaws.{gate, greatest_ge}
use Rattle.laws.proofs.PeakLaws.{peaked_lowest, peak_of, first_greatest_cong}
use Rattle.model.specs.Task.{Task}
use Rattle.model.specs.Demand.{frame, offset, counted, lowest}
use Rattle.model.specs.Response.{peak_frame, share_of}
use Rattle.model.specs.ResponseMeaning.{NeverFalls, IsPeak}
use Rattle.model.proofs.CyclicLaws.{Moves, counted_zero, counted_on}
use Rattle.model.proofs.ReachLaws.{counted_mono}
use Rattle.model.proofs.DemandLaws.{counted_below}

-- ---- the share

-- in the document's words: "the sum of E of frames with offset below the previous value"
pub share_below : (task : Task) (w : ℕ)
    → share_of task w
    ≡ sum (suc w) (λ n. only (ltb (offset task (peak_frame task) n) w) (task.E (frame task (peak_frame task) n)))
unfolding share_of
share_below task w = counted_below task w (peak_frame task)

pub share_mono : (task : Task) → NeverFalls (share_of task)
unfolding share_of
share_mono task v w order = counted_mono task _ v w (peak_frame task) order

-- ---- the peak frame

pub peak_right : (task : Task) → 1 ≤ task.count → IsPeak task (peak_frame task)
unfolding peak_frame
peak_right task some =
    let peak = peak_of task.E task.count in
    let top = peak.1.has some in
    subst (IsPeak task) (peaked_lowest peak.1)
    (record {
      inside = peak.1.below some;
      greatest = λ j within. omega (arith, greatest_ge task.E task.count j within);
      lowest = λ j less. omega (arith, peak.1.lowest j less);
    })

pub peak_only : (task : Task) (i j : ℕ) → IsPeak task i → IsPeak task j → i ≡ j
peak_only task i j one other =
    neither_lower i j (λ less. omega (arith, other.lowest i less, one.greatest j other.inside))
    (λ more. omega (arith, one.lowest j more, other.greatest i one.inside))

module _ {task : Task} (moves : Moves task (λ i. 1)) where
  -- in one tick only the first frame works, for the next comes a tick later or more
  pub work_in_one : (s : ℕ) → s < task.count → counted task (λ i. 1) 1 s ≡ task.E s
  work_in_one s inside =
      omega (
        arith,
        counted_on moves 1 s inside,
        (gate 1 1 (task.E s)).passes (le_refl 1),
        ap (λ (u : ℕ). counted task (λ i. 1) u (frame task s 1)) over,
        counted_zero moves (frame task s 1),
      )
    where
      over : 1 - task.P s ≡ 0
      over = omega (arith, moves.gap s inside)

  -- so the lowest start that brings the most work into one tick is the peak frame
  pub peak_lowest : lowest task (λ i. 1) 1 ≡ peak_frame task
  unfolding lowest peak_frame
  peak_lowest = first_greatest_cong (counted task (λ i. 1) 1) task.E task.count work_in_one
