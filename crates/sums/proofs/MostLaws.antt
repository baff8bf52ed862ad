-- The starts of one task, tried in order: what the loop keeps, and a law for its start, its turn and its end.
-- Assumes nothing.
use mathlib.Core.Path.{◌≡◌, subst}
use Prim.Native.Nat.{ℕ, ◌+◌, ◌*◌, ◌≤◌, ◌<◌}
use native.Mathlib.Omega.{arith}
use borrow.Author.Tests.{lt-ltb, le-ltb}
use Rattle.laws.proofs.PeakLaws.{Peaked, peaked_none, peaked_turn}
use Rattle.model.specs.Task.{Task}
use Rattle.model.specs.Demand.{counted}
use Rattle.model.proofs.StartLaws.{lowest_is}
use Rattle.sums.specs.declared.asked.Sum.{Sum}
use Rattle.sums.specs.declared.peak.Peak.{Peak}
use Rattle.sums.specs.Sized.{largest, reach_by, Summed, Greatest}

-- the starts below `start` are tried, and this is their peak
pub record Trying (task : Task) (which : Sum) (t : ℕ) (peak : Peak) (start : ℕ) : Type 0 where
  pub peaked : Peaked (counted task (reach_by which task) t) start peak.sum peak.start
  pub small : peak.sum ≤ largest * t

pub trying_none : (task : Task) (which : Sum) (t : ℕ) → Trying task which t (record { sum = 0; start = 0 }) 0
trying_none task which t =
    record { peaked = peaked_none (counted task (reach_by which task) t); small = omega arith }

module _ {task : Task} {which : Sum} {t : ℕ} {peak : Peak} {start : ℕ}
    (trying : Trying task which t peak start) where
  -- a greater sum gives the peak its start
  pub trying_more : {sum : ℕ} → Summed task which t start sum → peak.sum < sum
      → Trying task which t (record { sum = sum; start = start }) (start + 1)
  trying_more {sum} one more =
      record {
        peaked = peaked_turn trying.peaked one.is (omega arith) (rw (lt-ltb peak.sum sum more));
        small = one.at_most;
      }

  -- an equal one keeps the earlier start
  pub trying_kept : {sum : ℕ} → Summed task which t start sum → sum ≤ peak.sum
      → Trying task which t peak (start + 1)
  trying_kept {sum} one less =
      record {
        peaked = peaked_turn trying.peaked one.is (omega arith) (rw (le-ltb peak.sum sum less));
        small = trying.small;
      }

  pub trying_end : 1 ≤ task.count → start ≡ task.count → Greatest task which t peak
  trying_end some whole =
      record {
        sum_is = all.sum_is;
        start_is = lowest_is task (reach_by which task) t all;
        inside = all.below some;
        at_most = trying.small;
      }
    where
      all : Peaked (counted task (reach_by which task) t) task.count peak.sum peak.start
      all = subst (λ (n : ℕ). Peaked (counted task (reach_by which task) t) n peak.sum peak.start) whole
          trying.peaked
