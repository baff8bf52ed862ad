-- The loop that counts the records of the tasks below k.
-- Assumes nothing.
use Prim.Native.Nat.{ℕ, ◌+◌, ◌≤◌, ◌<◌}
use mathlib.Core.Path.{◌≡◌, sym, ap, subst, ◌∙◌}
use mathlib.Core.Bool.{Bool}
use mathlib.Core.List.{List}
use lib.Dec.{ltb}
use native.Mathlib.Omega.{arith}
use borrow.Author.Tests.{lt-ltb, le-ltb}
use Rattle.laws.specs.Sums.{only}
use Rattle.laws.proofs.SumLaws.{sum_zero, sum_turn}
use Rattle.table.specs.declared.record.Record.{Record}
use Rattle.table.specs.Bytes.{record_of}
use Rattle.table.specs.TableOf.{records_before}

-- after i of n records
pub record Counts (s : List ℕ) (n k before i : ℕ) : Type 0 where
  pub within : i ≤ n
  pub most : before ≤ i
  pub so_far : before ≡ records_before i s k

pub counts_start : (s : List ℕ) (n k : ℕ) → Counts s n k 0 0
unfolding records_before
counts_start s n k = record { within = omega arith; most = omega arith; so_far = sym (sum_zero _) }

module _ {s : List ℕ} {n k before i : ℕ} (counts : Counts s n k before i) where
  turn : {one : ℕ} → i < n → one ≡ only (ltb (record_of s i).task k) 1 → one ≤ 1 → Counts s n k (before + one) (i + 1)
  unfolding records_before
  turn more is small =
      record {
        within = omega arith;
        most = omega (arith, counts.most);
        so_far = sum_turn (λ j. only (ltb (record_of s j).task k) 1) i counts.so_far is;
      }

  module _ {x : Record} (more : i < n) (here : x ≡ record_of s i) where
    pub counts_one : x.task < k → Counts s n k (before + 1) (i + 1)
    counts_one low =
        turn more (sym (ap (λ (b : Bool). only b 1) (ap (λ (y : Record). ltb y.task k) (sym here) ∙ lt-ltb _ _ low)))
        (omega arith)

    pub counts_none : k ≤ x.task → Counts s n k before (i + 1)
    counts_none high =
        subst (λ (m : ℕ). Counts s n k m (i + 1)) (omega arith)
        (turn more (sym (ap (λ (b : Bool). only b 1) (ap (λ (y : Record). ltb y.task k) (sym here) ∙ le-ltb _ _ high)))
        (omega arith))
