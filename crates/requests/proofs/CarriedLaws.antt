-- What the reader carries on to record i says of the records before it.
-- Assumes nothing.
use Prim.Native.Nat.{ℕ, ◌+◌, ◌≤◌, ◌<◌}
use mathlib.Core.Path.{◌≡◌, refl, sym, ◌∙◌}
use mathlib.Core.Logic.{inl, inr}
use mathlib.Core.List.{List}
use lib.ListN.{length, get_or, replicate, get_or-replicate}
use native.Mathlib.Omega.{arith}
use Rattle.std.specs.Array.{AllOfLen}
use Rattle.std.specs.Prelude.{Option, Some, None}
use Rattle.std.proofs.lemmas.List.{same_lists}
use Rattle.laws.proofs.Cases.{lt_or_le}
use Rattle.model.specs.Task.{Table}
use Rattle.model.specs.Request.{Next}
use Rattle.requests.specs.declared.entry.Entry.{Entry}
use Rattle.requests.specs.declared.list_rules.Carry.{Carry}
use Rattle.requests.specs.declared.list_rules.Turn.{Turn}
use Rattle.requests.specs.Entry.{entry_of, list_of}
use Rattle.requests.specs.ListRules.{nothing_carried, turn_after}

-- record m is the latest of task k before record i
pub record Latest (s : List ℕ) (i k m : ℕ) : Type 0 where
  pub before : m < i
  pub same : (entry_of s m).task ≡ k
  pub after : (j : ℕ) → m < j → j < i → (entry_of s j).task ≡ k → ⊥

-- of task k, where this is carried: no record yet, or its latest record says what has to come next
pub data OfTask (table : Table) (s : List ℕ) (i k : ℕ) (turn : Option Turn) : Type 0 where
  unseen : turn ≡ None → ((j : ℕ) → j < i → (entry_of s j).task ≡ k → ⊥) → OfTask table s i k turn
  seen : (m : ℕ) → Latest s i k m → turn ≡ Some (turn_after table (entry_of s m)) → OfTask table s i k turn

-- x is the record just before
pub record Last (b : Carry) (x : Entry) : Type 0 where
  pub arrival : b.arrival ≡ x.arrival
  pub task : b.task ≡ x.task + 1

pub record Carried (table : Table) (s : List ℕ) (i : ℕ) (b : Carry) : Type 0 where
  pub few : table.tasks ≤ 16  -- each task has a place
  pub long : length b.turns ≡ 16
  pub first_arrival : i ≡ 0 → b.arrival ≡ 0
  pub first_task : i ≡ 0 → b.task ≡ 0
  pub last : (j : ℕ) → j + 1 ≡ i → Last b (entry_of s j)
  pub of_task : (k : ℕ) → k < 16 → OfTask table s i k (get_or b.turns k None)

-- ---- before the first record

-- a derived default has all 0, and of no task anything has to come
pub nothing_at_first : {b : Carry} → (b.arrival ≡ 0) × ((b.task ≡ 0) × AllOfLen (λ turn. turn ≡ None) b.turns 16) →
    b ≡ nothing_carried
nothing_at_first {b} (no_arrival, (no_task, none)) =
    let is : record { arrival = b.arrival; task = b.task; turns = b.turns } ≡ nothing_carried =
    rw (no_arrival, no_task, no_turns)
    in
    is
  where
    no_turns : b.turns ≡ replicate 16 None
    no_turns =
        same_lists b.turns (replicate 16 None) none.long
        (λ k d within.
        let low : k < 16 = omega (arith, none.long) in none.at k d low ∙ sym (get_or-replicate 16 k None d low))

pub carried_start : {table : Table} (s : List ℕ) → table.tasks ≤ 16 → Carried table s 0 nothing_carried
carried_start s few =
    record {
      few = few;
      long = refl;
      first_arrival = λ first. refl;
      first_task = λ first. refl;
      last = λ j before. absurd (omega arith);
      of_task = λ k low. unseen (get_or-replicate 16 k None None low) (λ j before. absurd (omega arith));
    }

-- ---- the latest record of record i's task is the one that record i is the next after

module _ {s : List ℕ} {i m : ℕ} (latest : Latest s i (entry_of s i).task m) where
  pub latest_next : Next (list_of s) m i
  latest_next = record { earlier = latest.before; same = latest.same; between = latest.after }

  pub latest_is : (j : ℕ) → Next (list_of s) j i → j ≡ m
  latest_is j next =
      elim (lt_or_le j m) [
        | inl sooner ↦ absurd (next.between m sooner latest.before latest.same)
        | inr from ↦ elim (lt_or_le m j) [
          | inl later ↦ absurd (latest.after j later next.earlier next.same)
          | inr to ↦ omega arith
        ]
      ]
