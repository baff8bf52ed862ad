-- Laws of the search for the last number that passes: how many numbers go up to it.
-- Assumes nothing.
use mathlib.Core.Bool.{Bool, true, false}
use mathlib.Core.Path.{◌≡◌, refl, sym, ◌∙◌, ap}
use mathlib.Core.Logic.{inl, inr}
use Prim.Native.Nat.{ℕ, zero, suc, ◌≤◌, ◌<◌}
use native.Mathlib.Omega.{arith}
use Rattle.laws.specs.Search.{up_to_last}
use Rattle.laws.proofs.Cases.{lt_or_last}
use Rattle.laws.proofs.Falling.{steady}

module _ (test : ℕ → Bool) where
  pub last_none : up_to_last test 0 ≡ 0
  unfolding up_to_last
  last_none = refl

  pub last_hit : (n : ℕ) → test n ≡ true → up_to_last test (suc n) ≡ suc n
  unfolding up_to_last
  last_hit n passes = rw (passes, up_to_last)

  pub last_miss : (n : ℕ) → test n ≡ false → up_to_last test (suc n) ≡ up_to_last test n
  unfolding up_to_last
  last_miss n fails = rw (fails, up_to_last)

  -- numbers that fail change nothing
  pub last_longer : (n m : ℕ) → n ≤ m → ((j : ℕ) → n ≤ j → j < m → test j ≡ false)
      → up_to_last test m ≡ up_to_last test n
  last_longer n m longer fail = steady (up_to_last test) n m longer (λ j low high. last_miss j (fail j low high))

  -- the last of them passes
  pub last_passes : (n m : ℕ) → up_to_last test n ≡ suc m → test m ≡ true
  last_passes zero m found = absurd (omega (arith, last_none))
  last_passes (suc n) m found = which (test n) refl (last_passes n m)
    where
      which : (x : Bool) → test n ≡ x → (up_to_last test n ≡ suc m → test m ≡ true) → test m ≡ true
      which true passes rest = let here : m ≡ n = omega (arith, last_hit n passes) in ap test here ∙ passes
      which false fails rest = rest (sym (last_miss n fails) ∙ found)

  -- and none after it does
  pub last_past : (n j : ℕ) → up_to_last test n ≤ j → j < n → test j ≡ false
  last_past zero j past within = absurd (omega arith)
  last_past (suc n) j past within = which (test n) refl (last_past n j)
    where
      which : (x : Bool) → test n ≡ x → (up_to_last test n ≤ j → j < n → test j ≡ false) → test j ≡ false
      which true passes rest = absurd (omega (arith, last_hit n passes))
      which false fails rest =
          elim (lt_or_last j n within) [
            | inl less ↦ rest (omega (arith, last_miss n fails)) less
            | inr here ↦ ap test here ∙ fails
          ]
