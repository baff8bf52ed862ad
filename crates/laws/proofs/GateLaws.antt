-- What a test lets through: `only test x` is x where the test passes, else 0.
-- Assumes nothing.
use mathlib.Core.Bool.{Bool, true, false, ◌&&◌, false≢true}
use mathlib.Core.Path.{◌≡◌, refl}
use Prim.Native.Nat.{ℕ, ◌≤◌, ◌<◌}
use native.Mathlib.Omega.{arith}
use Rattle.laws.specs.Sums.{only}

pub only_passed : (test : Bool) (x : ℕ) → test ≡ true → only test x ≡ x
only_passed test x passes = rw passes

pub only_most : (test : Bool) (x : ℕ) → only test x ≤ x
only_most true x = omega arith
only_most false x = omega arith

pub only_mono : (test : Bool) (x y : ℕ) → x ≤ y → only test x ≤ only test y
only_mono true x y most = most
only_mono false x y most = omega arith

pub only_zero : (test : Bool) → only test 0 ≡ 0
only_zero true = refl
only_zero false = refl

-- where more than some number comes through, the test passes
pub only_through : (test : Bool) (x y : ℕ) → y < only test x → test ≡ true
only_through true x y more = refl
only_through false x y more = absurd (omega arith)

-- a test that passes wherever another does lets no less through
pub only_wider : (test wider : Bool) (x : ℕ) → (test ≡ true → wider ≡ true) → only test x ≤ only wider x
only_wider true wider x widens = omega (arith, only_passed wider x (widens refl))
only_wider false wider x widens = omega arith

-- a test that passes wherever another does adds nothing to it
pub only_implied : (implied test : Bool) (x : ℕ) → (test ≡ true → implied ≡ true)
    → only (implied && test) x ≡ only test x
only_implied true test x follows = refl
only_implied false true x follows = absurd (false≢true (follows refl))
only_implied false false x follows = refl
