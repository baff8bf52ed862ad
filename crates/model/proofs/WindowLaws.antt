-- The closing window says what the document says, and whatever says that is the closing window.
-- Assumes nothing.
use mathlib.Core.Path.{◌≡◌, sym}
use Prim.Native.Nat.{ℕ}
use native.Mathlib.Omega.{arith}
use Rattle.laws.specs.Search.{Found, at, nowhere}
use Rattle.laws.proofs.SearchLaws.{Least, Right, least_right, least_is, none_is}
use Rattle.model.specs.Task.{Table}
use Rattle.model.specs.Verdict.{closes, closing_window}
use Rattle.model.specs.VerdictMeaning.{Closing, WindowSays}
use Rattle.model.proofs.ClosingLaws.{closes_yes, closes_no, does_close, stays_open}

module _ (limit : ℕ) (table : Table) where
  found_says : (w : Found) → Right (closes table) limit 1 w → WindowSays limit table w
  found_says (at w) least =
      record {
        from = least.low;
        within = omega (arith, least.high);
        closes = does_close table w least.passes;
        least = λ v low less. stays_open table v (least.first v low less);
      }
  found_says nowhere none = λ w low high. stays_open table w (none w low (omega arith))

  pub window_says : WindowSays limit table (closing_window limit table)
  unfolding closing_window
  window_says = found_says (closing_window limit table) (least_right (closes table) limit 1)

  least_closing : (w : ℕ) → Closing limit table w → Least (closes table) limit 1 w
  least_closing w closing =
      record {
        low = closing.from;
        high = omega (arith, closing.within);
        passes = closes_yes table w closing.closes;
        first = λ v low less. closes_no table v (closing.least v low less);
      }

  pub window_only : (w : Found) → WindowSays limit table w → w ≡ closing_window limit table
  unfolding closing_window
  window_only (at w) closing = sym (least_is (closes table) limit 1 w (least_closing w closing))
  window_only nowhere open_ended =
      sym (none_is (closes table) limit 1 (λ w low high. closes_no table w (open_ended w low (omega arith))))
