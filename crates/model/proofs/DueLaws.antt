-- A task's requests up to the last that is due by t: that they go so far and no further, that each comes before t, and
-- that they are all that the cyclic sum counts.
-- Assumes nothing.
use mathlib.Core.Bool.{false}
use mathlib.Core.Path.{◌≡◌, refl, sym}
use mathlib.Core.Logic.{inl, inr}
use Prim.Native.Nat.{ℕ, zero, suc, ◌+◌, ◌≤◌, ◌<◌}
use native.Mathlib.Nat.{le_refl, le_step}
use native.Mathlib.Omega.{arith}
use borrow.Author.Tests.{leb-true, lt-leb}
use Rattle.laws.specs.Sums.{sum}
use Rattle.laws.proofs.Cases.{lt_or_le}
use Rattle.laws.proofs.SumLaws.{sum_past}
use Rattle.laws.proofs.LastLaws.{last_passes, last_past}
use Rattle.model.specs.Task.{Task, Proper}
use Rattle.model.specs.Demand.{frame, offset, part, counted}
use Rattle.model.specs.Overload.{due_by, requests_by, UpToLastDue}
use Rattle.model.proofs.CyclicLaws.{frame_lt, offset_mono, offset_late}
use Rattle.model.proofs.DemandLaws.{demand_moves}

module _ {task : Task} (proper : Proper task) (s t : ℕ) where
  -- a request from t on comes too late
  late : (n : ℕ) → t ≤ n → due_by task s t n ≡ false
  late n after =
      lt-leb (offset task s n + task.D (frame task s n)) t
      (omega (
        arith,
        offset_late (demand_moves proper) s n,
        proper.waits (frame task s n) (frame_lt task proper.some s n),
      ))

  pub requests_right : UpToLastDue task s t (requests_by task s t)
  unfolding requests_by
  requests_right =
      record {
        last = λ n is. last_passes (due_by task s t) (suc t) n is;
        past = λ n after.
            elim (lt_or_le n (suc t)) [
              | inl within ↦ last_past (due_by task s t) (suc t) n after within
              | inr over ↦ late n (omega arith)
            ];
      }

  -- none comes after the last, whose D is at least 1
  pub run_near : (n : ℕ) → n < requests_by task s t → offset task s n < t
  run_near n inside = which (requests_by task s t) refl inside
    where
      which : (many : ℕ) → requests_by task s t ≡ many → n < many → offset task s n < t
      which zero none inside = absurd (omega arith)
      which (suc m) last inside =
          omega (
            arith,
            offset_mono task s n m (omega arith),
            leb-true (offset task s m + task.D (frame task s m)) t (requests_right.last m last),
            proper.waits (frame task s m) (frame_lt task proper.some s m),
          )

  -- at most t: each P is at least 1
  few : requests_by task s t ≤ t
  few = which (requests_by task s t) run_near
    where
      which : (many : ℕ) → ((n : ℕ) → n < many → offset task s n < t) → many ≤ t
      which zero near = omega arith
      which (suc m) near = omega (arith, near m (le_refl (suc m)), offset_late (demand_moves proper) s m)

  pub requests_counted : sum (requests_by task s t) (part task task.D t s) ≡ counted task task.D t s
  unfolding counted
  requests_counted =
      sym (sum_past (requests_by task s t) (suc t) (part task task.D t s) (le_step few)
      (λ n later. rw (requests_right.past n later)))
