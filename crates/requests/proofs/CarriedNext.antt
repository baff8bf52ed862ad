-- What the reader carries on after a record of one of the table's tasks.
-- Assumes nothing.
use Prim.Native.Nat.{ℕ, ◌+◌, ◌<◌}
use mathlib.Core.Path.{◌≡◌, refl, sym, ◌∙◌}
use mathlib.Core.Logic.{inl, inr}
use mathlib.Core.List.{List}
use lib.ListN.{get_or, length-set}
use lib.Seq.{get_or-set_same, get_or-set_other}
use native.Mathlib.Decide.{ℕ_discrete}
use native.Mathlib.Numerals.{add-one}
use native.Mathlib.Omega.{arith}
use Rattle.std.specs.Prelude.{Option, None}
use Rattle.laws.proofs.Cases.{lt_or_last}
use Rattle.model.specs.Task.{Table}
use Rattle.requests.specs.declared.list_rules.Carry.{Carry}
use Rattle.requests.specs.declared.list_rules.Turn.{Turn}
use Rattle.requests.specs.Entry.{entry_of}
use Rattle.requests.specs.ListRules.{list_after}
use Rattle.requests.proofs.CarriedLaws.{Latest, OfTask, unseen, seen, Carried}

-- record i, the newest, is the latest of its own task
newest : (s : List ℕ) (i : ℕ) → Latest s (i + 1) (entry_of s i).task i
newest s i = record { before = omega arith; same = refl; after = λ j later before. absurd (omega arith) }

-- what is carried of the other tasks stays
module _ (s : List ℕ) (i k : ℕ) (other : k ≡ (entry_of s i).task → ⊥) where
  -- a record of task k up to record i is before it
  before_it : (j : ℕ) → j < i + 1 → (entry_of s j).task ≡ k → j < i
  before_it j within same =
      elim (lt_or_last j i (rw add-one at within)) [
        | inl before ↦ before
        | inr here ↦ absurd (other (sym (rw here at same)))
      ]

  stays : {table : Table} {turn : Option Turn} → OfTask table s i k turn → OfTask table s (i + 1) k turn
  stays (unseen is never) = unseen is (λ j within same. never j (before_it j within same) same)
  stays (seen m latest is) = seen m still is
    where
      still : Latest s (i + 1) k m
      still =
          record {
            before = omega (arith, latest.before);
            same = latest.same;
            after = λ j later within same. latest.after j later (before_it j within same) same;
          }

module _ {table : Table} {s : List ℕ} {i : ℕ} {b : Carry} (carried : Carried table s i b) where
  of_task_next : (entry_of s i).task < 16 → (k : ℕ) → k < 16 →
      let after = list_after table b (entry_of s i) in
      OfTask table s (i + 1) k (get_or after.turns k None)
  of_task_next low k inside =
      elim (ℕ_discrete k (entry_of s i).task) [
        | yes here ↦
            rw here
            (seen i (newest s i)
            (get_or-set_same b.turns (entry_of s i).task _ None (omega (arith, carried.long))))
        | no other ↦
            rw (get_or-set_other b.turns (entry_of s i).task k _ None other)
            (stays s i k other (carried.of_task k inside))
      ]

  pub carried_next : (entry_of s i).task < 16 → Carried table s (i + 1) (list_after table b (entry_of s i))
  carried_next low =
      record {
        few = carried.few;
        long = length-set b.turns _ _ ∙ carried.long;
        first_arrival = λ first. absurd (omega arith);
        first_task = λ first. absurd (omega arith);
        last = λ j before.
            let here : j ≡ i = omega arith in rw here (record { arrival = refl; task = refl });
        of_task = of_task_next low;
      }
