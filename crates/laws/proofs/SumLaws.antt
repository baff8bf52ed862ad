-- Laws of sums over an index, of the gate and of the greatest value.
-- Assumes nothing.
use mathlib.Core.Path.{◌≡◌, refl, sym, ap, ap₂, ◌∙◌}
use mathlib.Core.Logic.{inl, inr}
use Prim.Native.Nat.{ℕ, zero, suc, ◌+◌, ◌≤◌, ◌<◌}
use native.Mathlib.Numerals.{add-one}
use native.Mathlib.Omega.{arith}
use lib.Dec.{leb}
use borrow.Author.Tests.{le-leb, lt-leb}
use Rattle.laws.specs.Sums.{sum, only, greatest}
use Rattle.laws.proofs.Cases.{lt_or_le, lt_or_last}
use Rattle.laws.proofs.GateLaws.{only_most}

-- ---- the gate

-- what a test on an order lets through
pub record Gate (a b x y : ℕ) : Type 0 where
  pub passes : a ≤ b → y ≡ x
  pub shut : b < a → y ≡ 0
  pub most : y ≤ x

pub gate : (a b x : ℕ) → Gate a b x (only (leb a b) x)
gate a b x =
    record { passes = λ h. rw (le-leb a b h); shut = λ h. rw (lt-leb a b h); most = only_most (leb a b) x }

-- ---- sums

pub sum_zero : (f : ℕ → ℕ) → sum 0 f ≡ 0
unfolding sum
sum_zero f = refl

pub sum_suc : (n : ℕ) (f : ℕ → ℕ) → sum (suc n) f ≡ sum n f + f n
unfolding sum
sum_suc n f = refl

-- one turn of a loop
pub sum_turn : (f : ℕ → ℕ) (n : ℕ) {q v : ℕ} → q ≡ sum n f → v ≡ f n → q + v ≡ sum (n + 1) f
sum_turn f n so_far here = ap₂ ◌+◌ so_far here ∙ sym (ap (λ (k : ℕ). sum k f) (add-one n) ∙ sum_suc n f)

pub sum_mono : (n : ℕ) (f g : ℕ → ℕ) → ((k : ℕ) → k < n → f k ≤ g k) → sum n f ≤ sum n g
unfolding sum
sum_mono zero f g h = omega arith
sum_mono (suc n) f g h = omega (arith, sum_mono n f g (λ k l. h k (omega arith)), h n (omega arith))

pub sum_cong : (n : ℕ) (f g : ℕ → ℕ) → ((k : ℕ) → k < n → f k ≡ g k) → sum n f ≡ sum n g
unfolding sum
sum_cong zero f g h = refl
sum_cong (suc n) f g h = omega (arith, sum_cong n f g (λ k l. h k (omega arith)), h n (omega arith))

pub sum_+ : (n : ℕ) (f g : ℕ → ℕ) → sum n (λ k. f k + g k) ≡ sum n f + sum n g
unfolding sum
sum_+ zero f g = refl
sum_+ (suc n) f g = omega (arith, sum_+ n f g)

-- the first summand apart
pub sum_head : (n : ℕ) (f : ℕ → ℕ) → sum (suc n) f ≡ f 0 + sum n (λ k. f (suc k))
unfolding sum
sum_head zero f = omega arith
sum_head (suc n) f = omega (arith, sum_head n f)

pub sum_none : (n : ℕ) (f : ℕ → ℕ) → ((k : ℕ) → k < n → f k ≡ 0) → sum n f ≡ 0
unfolding sum
sum_none zero f h = refl
sum_none (suc n) f h = omega (arith, sum_none n f (λ k l. h k (omega arith)), h n (omega arith))

-- a longer sum is as large, and the same where what it adds is 0
pub sum_longer : (n m : ℕ) (f : ℕ → ℕ) → n ≤ m → sum n f ≤ sum m f
unfolding sum
sum_longer zero zero f h = omega arith
sum_longer (suc n) zero f h = absurd (omega arith)
sum_longer zero (suc m) f h = omega arith
sum_longer (suc n) (suc m) f h =
    elim (lt_or_le n m) [
      | inl less ↦ omega (arith, sum_longer (suc n) m f less)
      | inr more ↦ omega (arith, ap (λ (k : ℕ). sum (suc k) f) (same more))
    ]
  where
    same : m ≤ n → n ≡ m
    same more = omega arith

pub sum_enough : (n m : ℕ) (f : ℕ → ℕ) → ((k : ℕ) → n ≤ k → f k ≡ 0) → sum m f ≤ sum n f
unfolding sum
sum_enough n zero f h = omega arith
sum_enough n (suc m) f h =
    elim (lt_or_le m n)
    [ inl less ↦ sum_longer (suc m) n f less | inr more ↦ omega (arith, sum_enough n m f h, h m more) ]

pub sum_past : (n m : ℕ) (f : ℕ → ℕ) → n ≤ m → ((k : ℕ) → n ≤ k → f k ≡ 0) → sum m f ≡ sum n f
sum_past n m f h none = omega (arith, sum_longer n m f h, sum_enough n m f none)

-- ---- the greatest

module _ (f : ℕ → ℕ) where
  pub greatest_ge : (n i : ℕ) → i < n → f i ≤ greatest n f
  unfolding greatest
  greatest_ge zero i h = absurd (omega arith)
  greatest_ge (suc n) i h =
      elim (lt_or_last i n h) [ inl less ↦ omega (arith, greatest_ge n i less) | inr last ↦ omega (arith, ap f last) ]

  pub greatest_le : (n b : ℕ) → ((i : ℕ) → i < n → f i ≤ b) → greatest n f ≤ b
  unfolding greatest
  greatest_le zero b h = omega arith
  greatest_le (suc n) b h = omega (arith, h n (omega arith), greatest_le n b (λ i l. h i (omega arith)))

pub greatest_mono : (n : ℕ) (f g : ℕ → ℕ) → ((i : ℕ) → i < n → f i ≤ g i) → greatest n f ≤ greatest n g
greatest_mono n f g h = greatest_le f n (greatest n g) (λ i l. omega (arith, h i l, greatest_ge g n i l))

pub greatest_cong : (n : ℕ) (f g : ℕ → ℕ) → ((i : ℕ) → i < n → f i ≡ g i) → greatest n f ≡ greatest n g
greatest_cong n f g same =
    omega (
      arith,
      greatest_mono n f g (λ i l. omega (arith, same i l)),
      greatest_mono n g f (λ i l. omega (arith, same i l)),
    )
