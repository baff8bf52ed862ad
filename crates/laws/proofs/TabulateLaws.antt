-- A list by its places: how many it has, and what stands at one.
-- Assumes nothing.
use mathlib.Core.Path.{◌≡◌, refl, ap, sym, ◌∙◌}
use mathlib.Core.List.{◌∷◌, []}
use mathlib.Core.Logic.{inl, inr}
use Prim.Native.Nat.{ℕ, zero, suc, ◌<◌}
use native.Mathlib.Omega.{arith}
use lib.ListN.{length, get_or, length-append, get_or-append}
use lib.Seq.{get_or_at}
use Rattle.laws.specs.Sums.{tabulate}
use Rattle.laws.proofs.Cases.{lt_or_last}

pub tabulate_length : (n : ℕ) (f : ℕ → ℕ) → length (tabulate n f) ≡ n
unfolding tabulate
tabulate_length zero f = refl
tabulate_length (suc n) f = length-append (tabulate n f) (f n ∷ []) ∙ omega (arith, tabulate_length n f)

pub tabulate_at : (n : ℕ) (f : ℕ → ℕ) (i : ℕ) → i < n → get_or (tabulate n f) i 0 ≡ f i
unfolding tabulate
tabulate_at zero f i h = absurd (omega arith)
tabulate_at (suc n) f i h =
    elim (lt_or_last i n h) [
      | inl less ↦ get_or-append (tabulate n f) (f n ∷ []) 0 i (omega (arith, tabulate_length n f))
          ∙ tabulate_at n f i less
      | inr last ↦ get_or_at (tabulate n f) (f n) [] 0 i (tabulate_length n f ∙ sym last) ∙ ap f (sym last)
    ]
