-- Each test of the rules 10 and 11, with what is carried from the records passed, is true exactly where its rule is
-- broken.
-- Assumes nothing.
use Prim.Native.Nat.{ℕ, ◌+◌, ◌-◌}
use mathlib.Core.Path.{◌≡◌}
use mathlib.Core.Logic.{inl, inr}
use mathlib.Core.List.{List}
use lib.ListN.{get_or}
use native.Mathlib.Omega.{arith}
use Rattle.std.specs.Prelude.{Option, None}
use Rattle.laws.proofs.Cases.{lt_or_le}
use Rattle.laws.proofs.LadderLaws.{Caught, rung}
use Rattle.laws.proofs.Tests.{Catches, catches_as}
use Rattle.model.specs.Task.{Table}
use Rattle.model.specs.Request.{Before}
use Rattle.requests.specs.declared.entry.Entry.{Entry}
use Rattle.requests.specs.declared.list_rules.Carry.{Carry}
use Rattle.requests.specs.declared.list_rules.Turn.{Turn}
use Rattle.requests.specs.Entry.{entry_of, request_in, list_of}
use Rattle.requests.specs.ListRules.{misplaced, out_of_turn}
use Rattle.requests.specs.Accepted.{InPlace, InTurn, list_rules}
use Rattle.requests.proofs.TestLaws.{InOrder, catches_place, TurnKept, catches_turn}
use Rattle.requests.proofs.CarriedLaws.{OfTask, unseen, seen, Last, Carried, latest_next, latest_is}

module _ {table : Table} {s : List ℕ} {i : ℕ} {b : Carry} (carried : Carried table s i b) where
  -- ---- rule 10

  ordered : InOrder b (entry_of s i) → (j : ℕ) → j + 1 ≡ i → Before ((list_of s).request j) ((list_of s).request i)
  ordered order j before =
      let last = carried.last j before in
      elim (lt_or_le (entry_of s j).arrival (entry_of s i).arrival) [
        | inl less ↦ inl less
        | inr more ↦
            let same : (entry_of s i).arrival ≡ b.arrival = omega (arith, last.arrival, order.not_before) in
            inr (omega (arith, last.arrival), omega (arith, last.task, order.rising same))
      ]

  in_order : ((j : ℕ) → j + 1 ≡ i → Before ((list_of s).request j) ((list_of s).request i)) → InOrder b (entry_of s i)
  in_order before =
      elim (lt_or_le 0 i) [
        | inl more ↦ after (carried.last (i - 1) (omega arith)) (before (i - 1) (omega arith))
        | inr first ↦
            let no_arrival = carried.first_arrival (omega arith) in
            let no_task = carried.first_task (omega arith) in
            record { not_before = omega (arith, no_arrival); rising = λ same. omega (arith, no_task) }
      ]
    where
      after : {y : Entry} → Last b y → Before (request_in y) ((list_of s).request i) → InOrder b (entry_of s i)
      after last (inl less) =
          record {
            not_before = omega (arith, last.arrival);
            rising = λ same. absurd (omega (arith, last.arrival));
          }
      after last (inr (same, rises)) =
          record { not_before = omega (arith, last.arrival); rising = λ same. omega (arith, last.task) }

  catches_10 : (last : ℕ) → Catches (misplaced last table b (entry_of s i)) (InPlace last table s i)
  catches_10 last =
      catches_as
      (λ kept. record { pad = kept.pad; known = kept.known; near = kept.near; ordered = ordered kept.in_order })
      (λ place.
      record { pad = place.pad; known = place.known; near = place.near; in_order = in_order place.ordered })
      (catches_place last table b (entry_of s i))

  -- ---- rule 11

  follows : {turn : Option Turn} → OfTask table s i (entry_of s i).task turn → TurnKept turn (entry_of s i) →
      InTurn table s i
  follows (unseen is never) kept j next = absurd (never j next.earlier next.same)
  follows (seen m latest is) kept j next =
      let comes = rw is at kept in
      rw (latest_is latest j next) (record { frame_is = comes.frame_is; not_soon = omega (arith, comes.not_soon) })

  in_turn : {turn : Option Turn} → OfTask table s i (entry_of s i).task turn → InTurn table s i →
      TurnKept turn (entry_of s i)
  in_turn (unseen is never) turn = rw is tt
  in_turn (seen m latest is) turn =
      let on = turn m (latest_next latest) in rw is (record { frame_is = on.frame_is; not_soon = on.not_soon })

  catches_11 : {last : ℕ} → InPlace last table s i → Catches (out_of_turn b (entry_of s i)) (InTurn table s i)
  catches_11 place =
      let of_task = carried.of_task (entry_of s i).task (omega (arith, place.known.task, carried.few)) in
      catches_as (follows of_task) (in_turn of_task)
      (catches_turn (get_or b.turns (entry_of s i).task None) (entry_of s i))

  -- ---- both: the test of rule 11 leans on rule 10

  pub list_rules_caught : (last : ℕ) → Caught (list_rules last table) (b, entry_of s i) (s, i)
  list_rules_caught last = rung (catches_10 last) (λ in_place. rung (catches_11 in_place) (λ in_turn. tt))
