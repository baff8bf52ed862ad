-- Rules one under the other, and the first of them that is broken: "in each record 2, 3, 4, 5, 6". The rules of a
-- record and the order in which a question is tested are such ladders; a new rule is a row.
-- Assumes nothing.
use Rattle.std.specs.Prelude.{ℕ, ◌≡◌, Bool, true, cond, ◌&&◌, List, [], ◌∷◌, ◌⊎◌}

-- a rule: its number; the test of it on an X, which is what a program has in hand, and the index that it finds; what it
-- says of a Y, and which index a refusal by it carries
pub record Rule (X Y : Type 0) : Type 1 where
  pub number : ℕ
  pub is_broken : X → Bool
  pub index : X → ℕ
  pub Says : Y → Type 0
  pub Carries : Y → ℕ → Type 0

-- a rule that says this, with its number and what it carries, is broken
pub record Broken (says : Type 0) (its_number : ℕ) (Carries : ℕ → Type 0) (number index : ℕ) : Type 0 where
  pub number_is : number ≡ its_number
  pub fails : says → ⊥
  pub carries : Carries index

module _ {X Y : Type 0} where
  -- a rule whose refusal carries 0
  abbrev pub rule : ℕ → (X → Bool) → (Y → Type 0) → Rule X Y
  rule number is_broken Says =
      record {
        number = number;
        is_broken = is_broken;
        index = λ x. 0;
        Says = Says;
        Carries = λ y i. i ≡ 0;
      }

  -- the refusal by the first whose test is true, or `a` where none is; `refuse` makes it of a number and an index
  abbrev pub climb : {A : Type 0} → List (Rule X Y) → (ℕ → ℕ → A) → X → A → A
  climb [] refuse x a = a
  climb (r ∷ rs) refuse x a = cond (r.is_broken x) (refuse r.number (r.index x)) (climb rs refuse x a)

  -- what the rules say holds of y
  abbrev pub Keeps : List (Rule X Y) → Y → Type 0
  Keeps [] y = Unit {0}
  Keeps (r ∷ rs) y = r.Says y × Keeps rs y

  -- the first that y breaks has this number and carries this index: it is broken, and those above it hold
  abbrev pub Breaks : List (Rule X Y) → Y → ℕ → ℕ → Type 0
  Breaks [] y number index = ⊥
  Breaks (r ∷ rs) y number index =
      Broken (r.Says y) r.number (r.Carries y) number index ⊎ (r.Says y × Breaks rs y number index)

  -- each number passes a test
  abbrev pub all_numbers : (ℕ → Bool) → List (Rule X Y) → Bool
  all_numbers test [] = true
  all_numbers test (r ∷ rs) = test r.number && all_numbers test rs
