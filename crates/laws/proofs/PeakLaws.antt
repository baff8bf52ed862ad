-- The greatest value and the lowest place that has it, as a loop keeps them.
-- Assumes nothing.
use mathlib.Core.Bool.{cond}
use mathlib.Core.Path.{◌≡◌, refl, sym, ◌∙◌, ap}
use mathlib.Core.Logic.{◌⊎◌, inl, inr}
use native.Mathlib.Nat.{le_of_lt, max-eq_left, max-eq_right}
use Prim.Native.Nat.{ℕ, zero, suc, ◌+◌, ◌≤◌, ◌<◌, max}
use native.Mathlib.Numerals.{add-one}
use native.Mathlib.Omega.{arith}
use lib.Dec.{ltb, eqb}
use borrow.Author.Tests.{lt-ltb, le-ltb, eq-eqb, ne_eqb}
use Rattle.laws.specs.Sums.{greatest}
use Rattle.laws.specs.Search.{place_or, first_greatest}
use Rattle.laws.proofs.Cases.{lt_or_le}
use Rattle.laws.proofs.SumLaws.{greatest_ge, greatest_cong}
use Rattle.laws.proofs.SearchLaws.{Least, least_is, none_is}

-- sum is the greatest of f 0, .., f (n - 1), and place the lowest that has it; 0 and 0 where n is 0
pub record Peaked (f : ℕ → ℕ) (n sum place : ℕ) : Type 0 where
  pub sum_is : sum ≡ greatest n f
  pub inside : place ≤ n
  pub below : 0 < n → place < n
  pub has : 0 < n → f place ≡ sum
  pub lowest : (i : ℕ) → i < place → f i < sum

pub peaked_none : (f : ℕ → ℕ) → Peaked f 0 0 0
unfolding greatest
peaked_none f =
    record {
      sum_is = refl;
      inside = omega arith;
      below = λ h. absurd (omega arith);
      has = λ h. absurd (omega arith);
      lowest = λ i h. absurd (omega arith);
    }

module _ {f : ℕ → ℕ} {n sum place : ℕ} (so_far : Peaked f n sum place) where
  -- a greater value takes the place
  peaked_more : sum < f n → Peaked f (suc n) (f n) n
  unfolding greatest
  peaked_more more =
      record {
        sum_is = omega (arith, so_far.sum_is);
        inside = omega arith;
        below = λ h. omega arith;
        has = λ h. refl;
        lowest = λ i h. omega (arith, greatest_ge f n i h, so_far.sum_is);
      }

  -- an equal one leaves it, for the lowest is asked
  peaked_kept : f n ≤ sum → Peaked f (suc n) sum place
  unfolding greatest
  peaked_kept less =
      record {
        sum_is = omega (arith, so_far.sum_is);
        inside = omega (arith, so_far.inside);
        below = λ h. omega (arith, so_far.inside);
        has = λ h. elim (lt_or_le 0 n) [ inl some ↦ so_far.has some | inr none ↦ ap f (first none) ∙ nothing none ];
        lowest = so_far.lowest;
      }
    where
      first : n ≤ 0 → place ≡ n
      first none = omega (arith, so_far.inside)

      empty : n ≤ 0 → n ≡ 0
      empty none = omega arith

      nothing : n ≤ 0 → f n ≡ sum
      nothing none = omega (arith, so_far.sum_is, ap (λ (k : ℕ). greatest k f) (empty none))

  pub peaked_turn : {v sum' place' : ℕ} → v ≡ f n → sum' ≡ max sum v → place' ≡ cond (ltb sum v) n place
      → Peaked f (n + 1) sum' place'
  peaked_turn {v} here sum_is place_is = rw (add-one, sum_is, place_is, here) (which (lt_or_le sum (f n)))
    where
      which : (sum < f n) ⊎ (f n ≤ sum) → Peaked f (suc n) (max sum (f n)) (cond (ltb sum (f n)) n place)
      which (inl more) = rw (lt-ltb sum (f n) more, max-eq_right (le_of_lt more)) (peaked_more more)
      which (inr less) = rw (le-ltb sum (f n) less, max-eq_left less) (peaked_kept less)

  -- the place is what the search for the lowest one finds
  pub peaked_lowest : place ≡ first_greatest f n
  peaked_lowest =
      elim (lt_or_le 0 n) [
        | inl some ↦ sym (ap (place_or 0) (least_is _ n 0 place (found some)))
        | inr none ↦ first none ∙ sym (ap (place_or 0) (none_is _ n 0 (λ j h k. absurd (omega arith))))
      ]
    where
      first : n ≤ 0 → place ≡ 0
      first none = omega (arith, so_far.inside)

      found : 0 < n → Least (λ s. eqb (f s) (greatest n f)) n 0 place
      found some =
          record {
            low = omega arith;
            high = omega (arith, so_far.below some);
            passes = eq-eqb (f place) (greatest n f) (so_far.has some ∙ so_far.sum_is);
            first = λ j h k. ne_eqb (f j) (greatest n f) (λ e. omega (arith, so_far.lowest j k, so_far.sum_is));
          }

-- every f has a peak below every n
pub peak_of : (f : ℕ → ℕ) (n : ℕ) → (place : ℕ) × Peaked f n (greatest n f) place
unfolding greatest
peak_of f zero = (0, peaked_none f)
peak_of f (suc n) =
    let before = peak_of f n in
    (cond (ltb (greatest n f) (f n)) n before.0, rw add-one at (peaked_turn before.1 refl refl refl))

-- ---- values that agree below n have one lowest place

peaked_same : {f g : ℕ → ℕ} {n sum place : ℕ} → ((i : ℕ) → i < n → f i ≡ g i) → Peaked f n sum place
    → Peaked g n sum place
peaked_same {f} {g} {n} {sum} {place} same peaked =
    record {
      sum_is = peaked.sum_is ∙ greatest_cong n f g same;
      inside = peaked.inside;
      below = peaked.below;
      has = λ some. sym (same place (peaked.below some)) ∙ peaked.has some;
      lowest = λ i less. omega (arith, peaked.lowest i less, same i (omega (arith, peaked.inside)));
    }

pub first_greatest_cong : (f g : ℕ → ℕ) (n : ℕ) → ((i : ℕ) → i < n → f i ≡ g i)
    → first_greatest f n ≡ first_greatest g n
first_greatest_cong f g n same =
    let peak = peak_of f n in sym (peaked_lowest peak.1) ∙ peaked_lowest (peaked_same same peak.1)
