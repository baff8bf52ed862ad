-- Laws of the recurrence's values over any share: they never fall, and they stay where they repeat.
-- Assumes nothing.
use mathlib.Core.Path.{◌≡◌, refl, sym, ◌∙◌, ap}
use mathlib.Core.Logic.{inl, inr}
use Prim.Native.Nat.{ℕ, zero, suc, ◌+◌, ◌≤◌}
use native.Mathlib.Omega.{arith}
use Rattle.laws.proofs.Cases.{lt_or_last}
use Rattle.model.specs.Response.{value}
use Rattle.model.specs.ResponseMeaning.{NeverFalls, RisesTo}

module _ (share : ℕ → ℕ) where
  pub value_first : (e : ℕ) → value share e 0 ≡ e
  unfolding value
  value_first e = refl

  pub value_next : (e n : ℕ) → value share e (suc n) ≡ e + share (value share e n)
  unfolding value
  value_next e n = refl

  -- equal values have equal next values
  next_same : (e n m : ℕ) → value share e n ≡ value share e m → value share e (suc n) ≡ value share e (suc m)
  next_same e n m same = value_next e n ∙ ap (λ (v : ℕ). e + share v) same ∙ sym (value_next e m)

  -- "If a value repeats": it is repeated for ever
  pub value_stays : (e n : ℕ) → value share e (suc n) ≡ value share e n → (m : ℕ) → n ≤ m
      → value share e m ≡ value share e n
  value_stays e n again zero past = ap (value share e) (omega arith)
  value_stays e n again (suc m) past =
      elim (lt_or_last n (suc m) (omega arith)) [
        | inl less ↦ next_same e m n (value_stays e n again m (omega arith)) ∙ again
        | inr last ↦ ap (value share e) (sym last)
      ]

  -- why rounds are few: as long as the values rise, each is at least one more than the one before
  pub value_climbs : (e n : ℕ) → RisesTo share e n → e + n ≤ value share e n
  value_climbs e zero rises = omega (arith, value_first e)
  value_climbs e (suc n) rises =
      omega (arith, value_climbs e n (λ m less. rises m (omega arith)), rises n (omega arith))

module _ {share : ℕ → ℕ} (falls_never : NeverFalls share) where
  pub value_grows : (e n : ℕ) → value share e n ≤ value share e (suc n)
  value_grows e zero = omega (arith, value_first share e, value_next share e 0)
  value_grows e (suc n) =
      omega (
        arith,
        value_next share e n,
        value_next share e (suc n),
        falls_never (value share e n) (value share e (suc n)) (value_grows e n),
      )

  pub value_mono : (e n m : ℕ) → n ≤ m → value share e n ≤ value share e m
  value_mono e n zero order = omega (arith, ap (value share e) none)
    where
      none : n ≡ 0
      none = omega arith
  value_mono e n (suc m) order =
      elim (lt_or_last n (suc m) (omega arith)) [
        | inl less ↦ omega (arith, value_mono e n m (omega arith), value_grows e m)
        | inr last ↦ omega (arith, ap (value share e) last)
      ]
