-- The order of signed numbers and its test.
-- Assumes nothing.
use mathlib.Core.Bool.{Bool, true, false, not}
use mathlib.Core.Path.{◌≡◌, refl, sym, subst}
use native.Mathlib.Nat.{le_of_lt}
use lib.Dec.{T, le→leb, ltb→lt}
use lib.IntN.{ℤ, pos, negsuc}
use lib.Signed.{lt_z, ◌≤ℤ◌, ◌<ℤ◌, lt_z_yes, lt_z_no, le_z_yes, clash_ℤ}

pub lt_test : (a b : ℤ) → lt_z a b ≡ true → a <ℤ b
lt_test a b e = lt_z_yes (subst T (sym e) tt)

pub le_test : (a b : ℤ) → lt_z a b ≡ false → b ≤ℤ a
le_test a b e = lt_z_no (subst (λ (x : Bool). T (not x)) (sym e) tt)

pub test_lt : (a b : ℤ) → a <ℤ b → lt_z a b ≡ true
test_lt a b less = which (lt_z a b) refl
  where
    which : (x : Bool) → lt_z a b ≡ x → x ≡ true
    which true e = refl
    which false e = clash_ℤ less (le_test a b e)

pub test_le : (a b : ℤ) → b ≤ℤ a → lt_z a b ≡ false
test_le a b more = which (lt_z a b) refl
  where
    which : (x : Bool) → lt_z a b ≡ x → x ≡ false
    which true e = clash_ℤ (lt_test a b e) more
    which false e = refl

pub lt_le : (a b : ℤ) → a <ℤ b → a ≤ℤ b
lt_le (pos a) (pos b) less = le_z_yes (le→leb a b (le_of_lt (ltb→lt a b less.lt)))
lt_le (pos a) (negsuc b) less = absurd less.lt
lt_le (negsuc a) (pos b) less = le_z_yes tt
lt_le (negsuc a) (negsuc b) less = le_z_yes (le→leb b a (le_of_lt (ltb→lt b a less.lt)))
