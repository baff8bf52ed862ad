-- An array that a closure makes, place by place.
-- Assumes nothing.
use mathlib.Core.Path.{◌≡◌, sym, ◌∙◌, subst}
use mathlib.Core.List.{List}
use Prim.Native.Nat.{ℕ, zero, suc, ◌+◌, ◌≤◌, ◌<◌}
use native.Mathlib.Decide.{ℕ_discrete}
use native.Mathlib.Omega.{arith}
use denote.Param.Members.{Mut}
use lib.ListN.{get_or}
use Rattle.std.proofs.Common.{map}
use Rattle.std.specs.Fn.{Called}
use Rattle.std.specs.Array.{IsFromFnResult, IsFromFnResultFrom}
use Rattle.std.specs.List.{range_with_len}
use Rattle.std.proofs.lemmas.List.FromFn.{fill_by_all}
use Rattle.laws.specs.Sums.{tabulate}
use Rattle.laws.proofs.TabulateLaws.{tabulate_length, tabulate_at}

-- each call of f gives v of the place, and leaves f as it was
module _ {F B : Type 0} (g : Mut F (ℕ × Unit {0}) B) (f : F) (v : ℕ → B)
    (says : (k : ℕ) (y : B) (q : F) → Called g f (k, tt) y q → (y ≡ v k) × (q ≡ f)) where
  made_from : (ys : List B) (d : B) (i n : ℕ) → IsFromFnResultFrom g f ys i n → (k : ℕ) → i ≤ k → k < i + n
      → get_or ys k d ≡ v k
  made_from ys d i zero all k low high = absurd (omega arith)
  made_from ys d i (suc n) (q, y, here, called, rest) k low high =
      elim (ℕ_discrete k i) [
        | yes same ↦ rw same (here.1 d ∙ (says i y q called).0)
        | no differ ↦
            made_from ys d (i + 1) n (subst (λ p. IsFromFnResultFrom g p ys (i + 1) n) (says i y q called).1 rest) k
            (omega arith) (omega arith)
      ]

  pub made_whole : {ys : List B} {n : ℕ} → IsFromFnResult g f ys n → B → ys ≡ map v (range_with_len 0 n)
  made_whole {ys} {n} made d =
      fill_by_all v ys n d made.long (λ k less. made_from ys d 0 n made.each k (omega arith) (omega arith))

-- the same of numbers
pub made_list : {F : Type 0} (g : Mut F (ℕ × Unit {0}) ℕ) (f : F) (v : ℕ → ℕ)
    → ((k y : ℕ) (q : F) → Called g f (k, tt) y q → (y ≡ v k) × (q ≡ f)) → {ys : List ℕ} {n : ℕ}
    → IsFromFnResult g f ys n → ys ≡ tabulate n v
made_list g f v says {ys} {n} made =
    made_whole g f v says made 0
    ∙ sym (fill_by_all v (tabulate n v) n 0 (tabulate_length n v) (tabulate_at n v))
