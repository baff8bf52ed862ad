-- The tests of each order are right: true exactly where the rule is broken, and finding what its refusal carries.
-- Assumes nothing.
use Prim.Native.Nat.{ℕ, ◌+◌, ◌-◌, ◌≤◌}
use native.Mathlib.Omega.{arith}
use mathlib.Core.Bool.{Bool, true, true≢false, false≢true}
use mathlib.Core.List.{List}
use mathlib.Core.Path.{◌≡◌, refl, sym, ap, ◌∙◌}
use lib.ListN.{length}
use Rattle.laws.specs.Search.{Found, at, nowhere, place_or}
use Rattle.laws.proofs.LadderLaws.{Points, Caught, rung}
use Rattle.laws.proofs.Tests.{Catches, catches_as, catches_lt, catches_le}
use Rattle.model.specs.Verdict.{horizon, Verdict, overloaded, fits, undecided, verdict}
use Rattle.model.specs.VerdictMeaning.{Calm, Means}
use Rattle.model.proofs.ClosingLaws.{is_below, is_not_below}
use Rattle.model.proofs.FrameLaws.{catches_frame}
use Rattle.model.proofs.VerdictLaws.{verdict_means}
use Rattle.table.specs.Bytes.{Bytes, records}
use Rattle.table.specs.TableOf.{table_of}
use Rattle.table.specs.WellFormed.{WellFormed}
use Rattle.table.proofs.TaskLaws.{well_proper}
use Rattle.place.specs.Place.{no_room}
use Rattle.place.proofs.PlaceLaws.{catches_room}
use Rattle.table.specs.Deadlines.{first_above, WithinP, FirstAbove}
use Rattle.table.proofs.DeadlineLaws.{AboveTold, first_above_is, above_told}
use Rattle.desk.specs.Orders.{time_order, task_order, frame_order, size_order, writing_order, is_found}
use Rattle.desk.specs.OverloadRules.{OverloadedAt, is_calm, list_at, list_in, t_in}
use Rattle.promise.proofs.OverloadVerdicts.{over_at, over_verdict}

module _ (s : List ℕ) where
  pub time_right : (t : ℕ) → Caught (time_order t) s s
  time_right t = rung (catches_lt horizon t) (λ near. tt)

  pub task_right : (k t : ℕ) → Caught (task_order k t) s s
  task_right k t = rung (catches_le (table_of s).tasks k) (λ has. time_right t)

  -- ---- 9, then 8, which carries a record

  above_catches : Catches (is_found (first_above (records s) s)) (WithinP s (records s))
  above_catches = which (first_above (records s) s) (above_told s (records s))
    where
      which : (f : Found) → AboveTold s (records s) f → Catches (is_found f) (WithinP s (records s))
      which (at i) it =
          record {
            passed = λ e. absurd (true≢false e);
            caught = λ e within. omega (arith, it.above, within i it.inside);
          }
      which nowhere within = record { passed = λ e. within; caught = λ e holds. false≢true e }

  above_points : (WithinP s (records s) → ⊥)
      → Points (place_or 0 (first_above (records s) s)) (FirstAbove s (records s))
  above_points fails =
      record {
        is = which (first_above (records s) s) (above_told s (records s));
        only = λ i it. sym (ap (place_or 0) (first_above_is s (records s) it));
      }
    where
      which : (f : Found) → AboveTold s (records s) f → FirstAbove s (records s) (place_or 0 f)
      which (at i) it = it
      which nowhere within = absurd (fails within)

  pub frame_right : (k i : ℕ) → Caught (frame_order k i) s s
  frame_right k i =
      rung (catches_frame (table_of s) k i)
      (λ has. record { here = above_catches; points = above_points; rest = λ within. tt })

-- ---- 13, then 12

module _ (s : List ℕ) (bytes : Bytes s) (well : WellFormed s) where
  pub calm_none : Calm (table_of s) horizon → (t : ℕ) → OverloadedAt (table_of s) t → ⊥
  calm_none calm t over =
      true≢false (sym (is_below (table_of s) t over.below)
      ∙ is_not_below (table_of s) t (calm t over.from over.within))

  calm_catches : Catches (is_calm (verdict horizon (table_of s))) ((t : ℕ) × OverloadedAt (table_of s) t)
  calm_catches = which (verdict horizon (table_of s)) (verdict_means (well_proper bytes well) horizon)
    where
      calm : {b : Bool} → b ≡ true → Calm (table_of s) horizon → Catches b ((t : ℕ) × OverloadedAt (table_of s) t)
      calm is quiet =
          record {
            passed = λ e. absurd (true≢false (sym is ∙ e));
            caught = λ e (t, over). calm_none quiet t over;
          }

      which : (v : Verdict) → Means horizon (table_of s) v
          → Catches (is_calm v) ((t : ℕ) × OverloadedAt (table_of s) t)
      which (overloaded t m first) means =
          record { passed = λ e. (t, over_at means); caught = λ e holds. false≢true e }
      which (fits window m t) means = calm refl means.calm
      which undecided means = calm refl means.calm

  pub size_right : Caught size_order s s
  size_right = rung calm_catches (λ over. tt)

  -- the list of the verdict's t is that of whichever t is overloaded
  long_is : (t : ℕ) → OverloadedAt (table_of s) t
      → length (list_in (table_of s)) ≡ length (list_at (table_of s) t)
  long_is t over =
      ap (λ v. length (list_at (table_of s) (t_in v))) (over_verdict (well_proper bytes well) over)

  room_catches : (buffer : List ℕ) (place : ℕ) → (t : ℕ) × OverloadedAt (table_of s) t
      → Catches (no_room (length buffer) place (length (list_in (table_of s))))
      ((t : ℕ) → OverloadedAt (table_of s) t → place + length (list_at (table_of s) t) ≤ length buffer)
  room_catches buffer place (t, over) =
      catches_as
      (λ (near, enough) k at_k.
      let fewer : length (list_in (table_of s)) ≤ length buffer - place = enough in
      let close : place ≤ length buffer = near in
      omega (arith, long_is k at_k))
      (λ room. let enough = room t over in (omega arith, omega (arith, long_is t over)))
      (catches_room (length buffer) place (length (list_in (table_of s))))

  pub writing_right : (buffer : List ℕ) (place : ℕ) → Caught (writing_order buffer place) s s
  writing_right buffer place = rung calm_catches (λ over. rung (room_catches buffer place over) (λ room. tt))
