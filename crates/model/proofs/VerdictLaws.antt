-- The verdict says what the document says, and whatever says that is the verdict.
-- Assumes nothing.
use mathlib.Core.Path.{◌≡◌, refl, sym, ◌∙◌, ap, ap₂}
use mathlib.Core.List.{List}
use Prim.Native.Nat.{ℕ, zero, suc, ◌≤◌}
use native.Mathlib.Omega.{arith}
use lib.IntN.{ℤ}
use Rattle.laws.specs.Search.{Found, at, nowhere, first_least}
use Rattle.laws.proofs.SearchLaws.{Least, None, Right, least_right, least_is, none_is}
use Rattle.laws.proofs.LeastLaws.{FirstLeast, first_least_right, first_least_one_only}
use Rattle.model.specs.Task.{Table, ProperTable}
use Rattle.model.specs.Demand.{margin}
use Rattle.model.specs.Verdict.{closing_window, overloads, first_overload, Verdict, overloaded, fits, undecided, overloaded_at, fits_at, judged, verdict}
use Rattle.model.specs.VerdictMeaning.{Calm, Closing, WindowSays, Overloaded, Fits, Undecided, Means}
use Rattle.model.proofs.ClosingLaws.{below_zero, not_below, is_below, is_not_below}
use Rattle.model.proofs.WindowLaws.{window_says, window_only}
use Rattle.model.proofs.StartLaws.{starts_sixteen, starts_each, starts_past, starts_only}

least_margin : (table : Table) (w : ℕ) → 1 ≤ w → FirstLeast (margin table) w (first_least (margin table) w)
least_margin table zero some = absurd (omega arith)
least_margin table (suc w) some = first_least_right (margin table) w

module _ {table : Table} (good : ProperTable table) (limit : ℕ) where
  -- ---- what the verdict says

  calm_of : None (overloads table) limit 1 → Calm table limit
  calm_of none t low high = not_below table t (none t low (omega arith))

  says_overloaded : (t : ℕ) → Least (overloads table) limit 1 t → Means limit table (overloaded_at table t)
  unfolding overloaded_at
  says_overloaded t l =
      record {
        from = l.low;
        within = omega (arith, l.high);
        below = below_zero table t l.passes;
        least = λ u low less. not_below table u (l.first u low less);
        margin_is = refl;
        sixteen = starts_sixteen good t;
        each = starts_each good t;
        past = starts_past good t;
      }

  says_fits : (w : ℕ) → None (overloads table) limit 1 → Closing limit table w → Means limit table (fits_at table w)
  unfolding fits_at
  says_fits w none closing =
      let low = least_margin table w closing.from in
      record {
        calm = calm_of none;
        window_is = closing;
        t_from = low.from;
        t_within = low.within;
        margin_is = refl;
        lowest = low.least;
        first = low.first;
      }

  says : (o c : Found) → Right (overloads table) limit 1 o → WindowSays limit table c
      → Means limit table (judged table o c)
  says (at t) c over window = says_overloaded t over
  says nowhere (at w) none closing = says_fits w none closing
  says nowhere nowhere none open_ended = record { calm = calm_of none; open_ended = open_ended }

  pub verdict_means : Means limit table (verdict limit table)
  unfolding verdict first_overload
  verdict_means =
      says (first_overload limit table) (closing_window limit table) (least_right (overloads table) limit 1)
      (window_says limit table)

  -- ---- and only the verdict says it

  none_over : Calm table limit → first_overload limit table ≡ nowhere
  unfolding first_overload
  none_over calm = none_is (overloads table) limit 1 (λ t low high. is_not_below table t (calm t low (omega arith)))

  only_overloaded : (t : ℕ) (m : ℤ) (l : List ℕ) → Overloaded limit table t m l → overloaded t m l ≡ verdict limit table
  unfolding verdict first_overload overloaded_at
  only_overloaded t m l o =
      ap₂ (overloaded t) o.margin_is (starts_only good t l o.sixteen o.each o.past)
      ∙ sym (ap (λ (f : Found). judged table f (closing_window limit table))
      (least_is (overloads table) limit 1 t found))
    where
      found : Least (overloads table) limit 1 t
      found =
          record {
            low = o.from;
            high = omega (arith, o.within);
            passes = is_below table t o.below;
            first = λ u low less. is_not_below table u (o.least u low less);
          }

  only_fits : (w : ℕ) (m : ℤ) (t : ℕ) → Fits limit table w m t → fits w m t ≡ verdict limit table
  unfolding verdict fits_at
  only_fits w m t f =
      ap₂ (fits w) (f.margin_is ∙ ap (margin table) here) here
      ∙ sym (ap₂ (judged table) (none_over f.calm) (sym (window_only limit table (at w) f.window_is)))
    where
      here : t ≡ first_least (margin table) w
      here =
          first_least_one_only (margin table) w t (first_least (margin table) w)
          (record { from = f.t_from; within = f.t_within; least = f.lowest; first = f.first })
          (least_margin table w f.window_is.from)

  only_undecided : Undecided limit table → undecided ≡ verdict limit table
  unfolding verdict
  only_undecided u =
      sym (ap₂ (judged table) (none_over u.calm) (sym (window_only limit table nowhere u.open_ended)))

  pub means_only : (v : Verdict) → Means limit table v → v ≡ verdict limit table
  means_only (overloaded t m l) o = only_overloaded t m l o
  means_only (fits w m t) f = only_fits w m t f
  means_only undecided u = only_undecided u
