-- `find` over numbers that come one after the other: it gives the least that passes.
-- Assumes nothing.
use mathlib.Core.Bool.{Bool, false}
use mathlib.Core.Path.{◌≡◌, refl, sym, ap, ◌∙◌}
use Prim.Native.Nat.{ℕ, zero, suc, ◌+◌, ◌-◌}
use native.Mathlib.Omega.{arith}
use denote.Param.Members.{Mut}
use denote.Ref.{Bor}
use Rattle.std.specs.declared.ops.Range.{Range}
use Rattle.std.specs.declared.ops.RangeInclusive.{RangeInclusive}
use Rattle.std.specs.Iterator.{AlwaysYields, FindsItem, ActsAsAt}
use Rattle.std.specs.List.{find, range_with_len}
use Rattle.std.specs.Prelude.{Option}
use Rattle.std.specs.Range.{range_inclusive_start, range_inclusive_end, range_inclusive_exhausted, range_inclusive_left}
use Rattle.std.proofs.iter.Yields.{nat_range_steps}
use Rattle.std.proofs.iter.runs.Sources.{nat_range_inclusive_steps}
use Rattle.std.proofs.lemmas.Iterator.{YieldsList, YieldsList-from_range}
use Rattle.std.proofs.lemmas.Iterator.Adapters.{option_map_id}
use Rattle.std.proofs.lemmas.Iterator.Search.{find_from_yields_List}
use Rattle.laws.specs.Search.{least_from, option_of}

-- the first of n numbers from a on that passes is the least
first_is_least : (test : ℕ → Bool) (n a : ℕ) → find test (range_with_len a n) ≡ option_of (least_from test n a)
unfolding least_from
first_is_least test zero a = refl
first_is_least test (suc n) a = grind (arith, first_is_least test n (suc a))

module _ {S F : Type 0} {steps : S → Option ℕ → S → Type 0} {g : Mut F (Bor ℕ × Unit {0}) Bool} {s : S} {f : F}
    {r : Option ℕ} (u : S) (test : ℕ → Bool) (n a : ℕ) where
  -- over whatever gives these numbers
  finds_least : YieldsList steps (λ x. x) s (range_with_len a n) → FindsItem steps g s f r u → ActsAsAt g f test
      → r ≡ option_of (least_from test n a)
  finds_least gives ran acts =
      sym (option_map_id r) ∙ find_from_yields_List test u f r ran gives acts ∙ first_is_least test n a

-- ---- over `0..n`

pub find_below : {F : Type 0} {g : Mut F (Bor ℕ × Unit {0}) Bool} {f : F} {r : Option ℕ} (u : Range ℕ)
    (test : ℕ → Bool) (n : ℕ) → FindsItem nat_range_steps g (record { start = 0; end = n }) f r u → ActsAsAt g f test
    → r ≡ option_of (least_from test n 0)
find_below u test n = finds_least u test n 0 (YieldsList-from_range 0 n n refl (omega arith))

-- ---- over `a..=b`, of n numbers

abbrev left : RangeInclusive ℕ → ℕ
left s = range_inclusive_left (λ (a b : ℕ). b - a) s

-- the n numbers that are left come in order
in_order : (n a : ℕ) (s : RangeInclusive ℕ) → (range_inclusive_exhausted s ≡ false → range_inclusive_start s ≡ a)
    → left s ≡ n → AlwaysYields nat_range_inclusive_steps (λ x. x) s (range_with_len a n)
in_order zero a s from some = λ x t step. absurd (omega (arith, some, step.1.1))
in_order (suc n) a s from some =
    let here : range_inclusive_start s ≡ a = from (grind (arith, some)) in (
      λ t step. absurd (omega (arith, some, step.1.0)),
      λ x t step. (
        step.1.0 ∙ here,
        in_order n (a + 1) t (λ e. step.1.2 e ∙ ap (λ (k : ℕ). k + 1) here) (omega (arith, some, step.1.1)),
      ),
    )

pub find_up_to : {F : Type 0} {g : Mut F (Bor ℕ × Unit {0}) Bool} {s : RangeInclusive ℕ} {f : F} {r : Option ℕ}
    (u : RangeInclusive ℕ) (test : ℕ → Bool) (a n : ℕ) → range_inclusive_start s ≡ a → range_inclusive_end s + 1 ≡ a + n
    → range_inclusive_exhausted s ≡ false → FindsItem nat_range_inclusive_steps g s f r u → ActsAsAt g f test
    → r ≡ option_of (least_from test n a)
find_up_to {s = s} u test a n from to fresh =
    finds_least {steps = nat_range_inclusive_steps} {s = s} u test n a
    (record { runs = in_order n a s (λ e. from) (rw (from, fresh) (omega (arith, to))) })
