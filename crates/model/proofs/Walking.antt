-- What a loop that walks t from 1 to the limit keeps, and how each of its ways ends in the verdict.
-- Assumes nothing.
use mathlib.Core.Bool.{cond}
use mathlib.Core.Path.{◌≡◌, sym, ◌∙◌, ap, ap₂, subst}
use Prim.Native.Nat.{ℕ, suc, ◌+◌, ◌-◌, ◌≤◌, ◌<◌, min}
use native.Mathlib.Nat.{le_refl}
use native.Mathlib.Numerals.{add-one}
use native.Mathlib.Omega.{arith}
use lib.Dec.{ltb}
use lib.IntN.{ℤ, pos}
use Rattle.laws.proofs.Countdown.{all_to, one_less_to, none_to}
use Rattle.laws.proofs.LeastLaws.{LowSoFar, low_none, low_turn}
use Rattle.laws.proofs.SignedLaws.{sub_above}
use Rattle.model.specs.Task.{Table, ProperTable}
use Rattle.model.specs.Demand.{all_demands, all_work, margin}
use Rattle.model.specs.Verdict.{fits, undecided, overloaded_at, fits_at, verdict}
use Rattle.model.proofs.ClosingLaws.{overloads_yes, overloads_no, closes_yes, closes_no, CalmBelow, calm_one, calm_more}
use Rattle.model.proofs.WalkLaws.{walk, walk_over, walk_fits, walk_on, walk_is}

-- before t is tried: what is left to try gives the whole, no overload so far, and the least margin so far
pub record Walking (table : Table) (limit t low at : ℕ) : Type 0 where
  pub begun : 1 ≤ t
  pub within : t ≤ suc limit
  pub rest : walk table (suc limit - t) t ≡ verdict limit table
  pub calm : CalmBelow table t
  pub lowest : LowSoFar (margin table) (t - 1) low at

-- t is tried and no overload: d is asked at it, and the least margin is taken anew
pub record WalkingTurn (table : Table) (limit t low at d low' at' : ℕ) : Type 0 where
  pub more : t ≤ limit
  pub asked : d ≡ all_demands table t
  pub calm : d ≤ t
  pub low_is : low' ≡ min low (t - d)
  pub at_is : at' ≡ cond (ltb (t - d) low) t at

module _ {table : Table} (good : ProperTable table) (limit : ℕ) where
  pub walking_start : Walking table limit 1 1 1
  walking_start =
      record {
        begun = le_refl 1;
        within = omega arith;
        rest = ap (λ (k : ℕ). walk table k 1) (all_to limit) ∙ walk_is good limit;
        calm = calm_one good;
        lowest = low_none (margin table);
      }

  module _ {t low at : ℕ} (walking : Walking table limit t low at) where
    pub walking_end : limit < t → undecided ≡ verdict limit table
    unfolding walk
    walking_end past = sym (ap (λ (k : ℕ). walk table k t) (none_to limit t past)) ∙ walking.rest

    pub walking_over : t ≤ limit → t < all_demands table t → overloaded_at table t ≡ verdict limit table
    walking_over more over =
        sym (ap (λ (k : ℕ). walk table k t) (one_less_to limit t more)
        ∙ walk_over table (suc limit - suc t) t (overloads_yes table t over))
        ∙ walking.rest

    module _ {d low' at' : ℕ} (tried : WalkingTurn table limit t low at d low' at') where
      calm_here : all_demands table t ≤ t
      calm_here = omega (arith, tried.asked, tried.calm)

      lowest_now : LowSoFar (margin table) t low' at'
      lowest_now =
          rw (tried.low_is, tried.at_is)
          (subst (λ (u : ℕ). LowSoFar (margin table) u (min low (t - d)) (cond (ltb (t - d) low) u at)) this
          (low_turn walking.lowest spare (λ first. omega arith)))
        where
          this : suc (t - 1) ≡ t
          this = omega (arith, walking.begun)

          spare : margin table (suc (t - 1)) ≡ pos (t - d)
          spare = rw (this, tried.asked) (sub_above t (all_demands table t) calm_here)

      pub walking_fits : all_work table t ≤ t → fits t (pos low') at' ≡ verdict limit table
      unfolding fits_at
      walking_fits closed =
          ap₂ (λ (m : ℤ) (u : ℕ). fits t m u)
          (sym (lowest_now.low_is walking.begun) ∙ ap (margin table) lowest_now.at_is) lowest_now.at_is
          ∙ sym
          (ap (λ (k : ℕ). walk table k t) (one_less_to limit t tried.more)
          ∙ walk_fits table (suc limit - suc t) t (overloads_no table t calm_here) (closes_yes table t closed))
          ∙ walking.rest

      pub walking_on : t < all_work table t → Walking table limit (t + 1) low' at'
      walking_on open_still =
          rw add-one
          (record {
            begun = omega arith;
            within = omega (arith, tried.more);
            rest =
                sym
                (ap (λ (k : ℕ). walk table k t) (one_less_to limit t tried.more)
                ∙ walk_on table (suc limit - suc t) t (overloads_no table t calm_here) (closes_no table t open_still))
                ∙ walking.rest;
            calm = calm_more good t walking.calm calm_here;
            lowest = rw back lowest_now;
          })
        where
          back : suc t - 1 ≡ t
          back = omega arith
