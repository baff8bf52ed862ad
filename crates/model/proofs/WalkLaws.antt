-- The walk that stops at the closing window gives the document's verdict, for every limit.
-- Assumes nothing.
use mathlib.Core.Bool.{Bool, true, false}
use mathlib.Core.Path.{◌≡◌, refl, sym, ◌∙◌, ap, ap₂}
use Prim.Native.Nat.{ℕ, zero, suc, ◌≤◌}
use native.Mathlib.Nat.{le_refl}
use native.Mathlib.Omega.{arith}
use Rattle.laws.specs.Search.{Found, least_from}
use Rattle.laws.proofs.SearchLaws.{None, least_hit, least_miss, none_is}
use Rattle.model.specs.Task.{Table, ProperTable}
use Rattle.model.specs.Verdict.{closes, closing_window, overloads, first_overload, Verdict, overloaded_at, fits_at, undecided, judged, verdict}
use Rattle.model.proofs.ClosingLaws.{overloads_no, no_overload, does_close, CalmBelow, calm_one, calm_more, calm_always}

-- at each t the overload, then the closing window; `many` are left to try
unfoldable pub walk : Table → ℕ → ℕ → Verdict
walk table zero t = undecided
walk table (suc many) t =
    elim (overloads table t) [
      | true ↦ overloaded_at table t
      | false ↦ elim (closes table t) [ true ↦ fits_at table t | false ↦ walk table many (suc t) ]
    ]

-- the rule, for the `many` numbers from t on
abbrev rule : Table → ℕ → ℕ → Verdict
rule table many t = judged table (least_from (overloads table) many t) (least_from (closes table) many t)

module _ (table : Table) (many t : ℕ) where
  pub walk_over : overloads table t ≡ true → walk table (suc many) t ≡ overloaded_at table t
  unfolding walk
  walk_over e = rw (e, walk)

  pub walk_fits : overloads table t ≡ false → closes table t ≡ true → walk table (suc many) t ≡ fits_at table t
  unfolding walk
  walk_fits e h = rw (e, h, walk)

  pub walk_on : overloads table t ≡ false → closes table t ≡ false → walk table (suc many) t ≡ walk table many (suc t)
  unfolding walk
  walk_on e h = rw (e, h, walk)

module _ {table : Table} (good : ProperTable table) where
  -- one t: the walk's choice is the rule's
  walk_step : (many t : ℕ) (o c : Bool) → overloads table t ≡ o → closes table t ≡ c → 1 ≤ t → CalmBelow table t
      → (CalmBelow table (suc t) → walk table many (suc t) ≡ rule table many (suc t))
      → walk table (suc many) t ≡ rule table (suc many) t
  walk_step many t true c e h some calm rest =
      walk_over table many t e
      ∙ sym (ap (λ (f : Found). judged table f (least_from (closes table) (suc many) t))
      (least_hit (overloads table) many t e))
  walk_step many t false true e h some calm rest =
      walk_fits table many t e h
      ∙ sym (ap₂ (judged table) (none_is (overloads table) (suc many) t quiet) (least_hit (closes table) many t h))
    where
      quiet : None (overloads table) (suc many) t
      quiet u l k = overloads_no table u (calm_always good t some (does_close table t h) calm u)
  walk_step many t false false e h some calm rest =
      walk_on table many t e h
      ∙ rest (calm_more good t calm (no_overload table t e))
      ∙ sym (ap₂ (judged table) (least_miss (overloads table) many t e) (least_miss (closes table) many t h))

  walk_from : (many t : ℕ) → 1 ≤ t → CalmBelow table t → walk table many t ≡ rule table many t
  unfolding walk least_from
  walk_from zero t some calm = refl
  walk_from (suc many) t some calm =
      walk_step many t (overloads table t) (closes table t) refl refl some calm (walk_from many (suc t) (omega arith))

  pub walk_is : (limit : ℕ) → walk table limit 1 ≡ verdict limit table
  unfolding verdict first_overload closing_window
  walk_is limit = walk_from limit 1 (le_refl 1) (calm_one good)
