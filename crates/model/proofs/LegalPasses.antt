-- The jobs of every legal list of a table that fits are such as the earliest-deadline machine finishes: no more is
-- due in any interval than it has ticks, since none asks more up to the closing window, nor past it.
-- Assumes nothing.
use Prim.Native.Nat.{ℕ, zero, suc, ◌+◌, ◌-◌, ◌≤◌}
use native.Mathlib.Omega.{arith}
use lib.IntN.{ℤ}
use Rattle.model.specs.Task.{Table, ProperTable}
use Rattle.model.specs.Demand.{all_demands}
use Rattle.model.specs.Request.{Requests, Legal}
use Rattle.model.specs.Jobs.{jobs_of}
use Rattle.model.specs.Service.{Passes}
use Rattle.model.specs.VerdictMeaning.{Fits}
use Rattle.model.proofs.AllLaws.{all_demands_zero, all_demands_mono}
use Rattle.model.proofs.ClosingLaws.{no_overload, is_not_below, CalmBelow, calm_always}
use Rattle.model.proofs.LegalSums.{due_ends, legal_due}

module _ {table : Table} (good : ProperTable table) {limit window t : ℕ} {m : ℤ}
    (fit : Fits limit table window m t) where
  -- a margin that is not below zero leaves the demand at most its time ..
  below_window : CalmBelow table window
  below_window zero less = omega (arith, all_demands_zero good)
  below_window (suc u) less =
      no_overload table (suc u)
      (is_not_below table (suc u) (fit.calm (suc u) (omega arith) (omega (arith, fit.window_is.within))))

  -- .. and past a closing window no overload begins
  fits_calm : (u : ℕ) → all_demands table u ≤ u
  fits_calm = calm_always good window fit.window_is.from fit.window_is.closes below_window

  pub fits_passes : (list : Requests) → Legal table list → Passes (jobs_of table list)
  fits_passes list legal =
      record {
        lasts = (due_ends good legal).after;
        calm = λ a u.
            omega (
              arith,
              legal_due good legal a (a + u),
              all_demands_mono table (a + u - a) u (omega arith),
              fits_calm u,
            );
      }
