-- Laws of one task's demand and work: nothing else opens the two. They never fall, no time asks nothing, and a longer
-- interval asks no more than its two parts.
-- Assumes nothing.
use mathlib.Core.Path.{◌≡◌, refl, ap}
use Prim.Native.Nat.{ℕ, suc, ◌+◌, ◌≤◌}
use native.Mathlib.Nat.{le_refl}
use native.Mathlib.Numerals.{add-one}
use lib.Dec.{leb, ltb}
use Rattle.laws.specs.Sums.{sum, only, greatest}
use Rattle.laws.proofs.SumLaws.{sum_cong, greatest_cong}
use Rattle.model.specs.Task.{Task, Proper}
use Rattle.model.specs.Demand.{frame, offset, part, counted, most, demand, work}
use Rattle.model.proofs.CyclicLaws.{Moves}
use Rattle.model.proofs.ReachLaws.{most_zero, most_mono, most_split}

-- a proper task moves under both reaches
pub demand_moves : {task : Task} → Proper task → Moves task task.D
demand_moves proper = record { some = proper.some; gap = proper.moves; room = proper.waits }

pub work_moves : {task : Task} → Proper task → Moves task (λ i. 1)
work_moves proper = record { some = proper.some; gap = proper.moves; room = λ i h. le_refl 1 }

-- work in the document's words: "add E of frames whose offset is below w; greatest over all s"
pub counted_below : (task : Task) (w s : ℕ)
    → counted task (λ i. 1) w s ≡ sum (suc w) (λ n. only (ltb (offset task s n) w) (task.E (frame task s n)))
unfolding counted
counted_below task w s =
    sum_cong (suc w) (part task (λ i. 1) w s) (λ n. only (ltb (offset task s n) w) (task.E (frame task s n)))
    (λ n h. ap (λ (o : ℕ). only (leb o w) (task.E (frame task s n))) (add-one (offset task s n)))

pub work_below : (task : Task) (w : ℕ)
    → work task w ≡ greatest task.count
    (λ s. sum (suc w) (λ n. only (ltb (offset task s n) w) (task.E (frame task s n))))
unfolding work
work_below task w =
    greatest_cong task.count (counted task (λ i. 1) w)
    (λ s. sum (suc w) (λ n. only (ltb (offset task s n) w) (task.E (frame task s n))))
    (λ s l. counted_below task w s)

-- ---- each is the greatest sum by its reach

pub demand_most : (task : Task) (t : ℕ) → demand task t ≡ most task task.D t
unfolding demand
demand_most task t = refl

pub work_most : (task : Task) (w : ℕ) → work task w ≡ most task (λ i. 1) w
unfolding work
work_most task w = refl

-- ---- all that the searches and the closing window use of a task

pub demand_zero : {task : Task} → Proper task → demand task 0 ≡ 0
unfolding demand
demand_zero proper = most_zero (demand_moves proper)

pub demand_mono : (task : Task) (t u : ℕ) → t ≤ u → demand task t ≤ demand task u
unfolding demand
demand_mono task = most_mono task task.D

pub work_mono : (task : Task) (v w : ℕ) → v ≤ w → work task v ≤ work task w
unfolding work
work_mono task = most_mono task (λ i. 1)

-- the demand at w + t is at most the work in w and the demand at t
pub demand_split : {task : Task} → Proper task → (w t : ℕ) → demand task (w + t) ≤ work task w + demand task t
unfolding demand work
demand_split proper = most_split (demand_moves proper)
