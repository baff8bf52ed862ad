-- The first test that is true names the first rule that is broken, with the index that it carries, where each test is
-- true exactly where its rule is broken. A test may lean on the rules above its own.
-- Assumes nothing.
use Prim.Native.Nat.{ℕ}
use mathlib.Core.Path.{◌≡◌, refl, sym, ap, ap₂, ◌∙◌}
use mathlib.Core.Bool.{Bool, true, false, ◌&&◌}
use mathlib.Core.List.{List, [], ◌∷◌}
use mathlib.Core.Logic.{◌⊎◌, inl, inr}
use lib.Dec.{eqb}
use borrow.Author.Tests.{eqb-true}
use Rattle.laws.specs.Ladder.{Rule, climb, Keeps, Breaks, all_numbers}
use Rattle.laws.proofs.Every.{and_true_left, and_true_right}
use Rattle.laws.proofs.Tests.{Catches, rule_kept, rule_broken}

-- ---- tests that are right

-- the index that is found is the one that is carried, and no other
pub record Points (index : ℕ) (Carries : ℕ → Type 0) : Type 0 where
  pub is : Carries index
  pub only : (i : ℕ) → Carries i → i ≡ index

pub points_0 : Points 0 (λ i. i ≡ 0)
points_0 = record { is = refl; only = λ i is. is }

-- one test is right, and where its rule holds so is the rest
pub record Rung (test : Bool) (index : ℕ) (says : Type 0) (Carries : ℕ → Type 0) (Rest : Type 0) : Type 0 where
  pub here : Catches test says
  pub points : (says → ⊥) → Points index Carries
  pub rest : says → Rest

abbrev pub Caught : {X Y : Type 0} → List (Rule X Y) → X → Y → Type 0
Caught [] x y = Unit {0}
Caught (r ∷ rs) x y = Rung (r.is_broken x) (r.index x) (r.Says y) (r.Carries y) (Caught rs x y)

-- of a rule that carries 0
pub rung : {test : Bool} {says Rest : Type 0} → Catches test says → (says → Rest) → Rung test 0 says (λ i. i ≡ 0) Rest
rung here rest = record { here = here; points = λ fails. points_0; rest = rest }

-- ---- both ways

module _ {X Y A : Type 0} (refuse : ℕ → ℕ → A) (x : X) (y : Y) (a : A) where
  pub climb_kept : (rules : List (Rule X Y)) → Caught rules x y → Keeps rules y → climb rules refuse x a ≡ a
  climb_kept [] caught keeps = refl
  climb_kept (r ∷ rs) caught (says, keeps) =
      rw (rule_kept caught.here says) (climb_kept rs (caught.rest says) keeps)

  pub climb_broken : (rules : List (Rule X Y)) (number index : ℕ) → Caught rules x y → Breaks rules y number index
      → climb rules refuse x a ≡ refuse number index
  climb_broken [] number index caught breaks = absurd breaks
  climb_broken (r ∷ rs) number index caught (inl bad) =
      rw (rule_broken caught.here bad.fails)
      (ap₂ refuse (sym bad.number_is) (sym ((caught.points bad.fails).only index bad.carries)))
  climb_broken (r ∷ rs) number index caught (inr (says, breaks)) =
      rw (rule_kept caught.here says) (climb_broken rs number index (caught.rest says) breaks)

-- all hold, or there is a first that is broken
pub keeps_or_breaks : {X Y : Type 0} (x : X) (y : Y) (rules : List (Rule X Y)) → Caught rules x y
    → Keeps rules y ⊎ (number : ℕ) × (index : ℕ) × Breaks rules y number index
keeps_or_breaks x y [] caught = inl tt
keeps_or_breaks x y (r ∷ rs) caught =
    which (r.is_broken x) refl (λ says. keeps_or_breaks x y rs (caught.rest says))
  where
    which : (b : Bool) → r.is_broken x ≡ b
        → (r.Says y → Keeps rs y ⊎ (number : ℕ) × (index : ℕ) × Breaks rs y number index)
        → Keeps (r ∷ rs) y ⊎ (number : ℕ) × (index : ℕ) × Breaks (r ∷ rs) y number index
    which true e below =
        let fails = caught.here.caught e in
        let carries = (caught.points fails).is in
        inr (r.number, r.index x, inl (record { number_is = refl; fails = fails; carries = carries }))
    which false e below =
        let says = caught.here.passed e in
        elim (below says) [
          | inl keeps ↦ inl (says, keeps)
          | inr (number, index, breaks) ↦ inr (number, index, inr (says, breaks))
        ]

-- ---- rules that carry 0, as those of a record do: which record it is, its reader says

-- each test finds the index 0
abbrev pub finds_0 : {X Y : Type 0} → List (Rule X Y) → X → Bool
finds_0 [] x = true
finds_0 (r ∷ rs) x = eqb (r.index x) 0 && finds_0 rs x

module _ {X Y : Type 0} (x : X) (y : Y) where
  breaks_0 : (rules : List (Rule X Y)) → finds_0 rules x ≡ true → Caught rules x y → (number index : ℕ)
      → Breaks rules y number index → index ≡ 0
  breaks_0 [] all caught number index breaks = absurd breaks
  breaks_0 (r ∷ rs) all caught number index (inl bad) =
      (caught.points bad.fails).only index bad.carries
      ∙ eqb-true (r.index x) 0 (and_true_left (eqb (r.index x) 0) (finds_0 rs x) all)
  breaks_0 (r ∷ rs) all caught number index (inr (says, breaks)) =
      breaks_0 rs (and_true_right (eqb (r.index x) 0) (finds_0 rs x) all) (caught.rest says) number index breaks

  -- all hold, or the number that is found is that of the first that is broken
  pub keeps_or_named : (rules : List (Rule X Y)) → finds_0 rules x ≡ true → Caught rules x y
      → Keeps rules y ⊎ Breaks rules y (climb rules (λ number index. number) x 0) 0
  keeps_or_named rules all caught =
      elim (keeps_or_breaks x y rules caught) [
        | inl keeps ↦ inl keeps
        | inr (number, index, breaks) ↦
            let named = climb_broken (λ number index. number) x y 0 rules number index caught breaks in
            inr (rw (named, ← breaks_0 rules all caught number index breaks) breaks)
      ]

-- ---- numbers

-- a number that is named is one of the ladder's: what a computed test says of them all holds of it
pub breaks_number : {X Y : Type 0} (y : Y) (test : ℕ → Bool) (rules : List (Rule X Y)) → all_numbers test rules ≡ true
    → (number index : ℕ) → Breaks rules y number index → test number ≡ true
breaks_number y test [] all number index breaks = absurd breaks
breaks_number y test (r ∷ rs) all number index (inl bad) =
    ap test bad.number_is ∙ and_true_left (test r.number) (all_numbers test rs) all
breaks_number y test (r ∷ rs) all number index (inr (says, breaks)) =
    breaks_number y test rs (and_true_right (test r.number) (all_numbers test rs) all) number index breaks
