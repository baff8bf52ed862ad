-- One turn of the weave: a task that is found has a request left, which is the next of the list, and the lanes stand
-- before the one after it when it is taken; where none is found the list is whole.
-- Assumes nothing.
use mathlib.Core.Bool.{false, false≢true}
use mathlib.Core.Path.{◌≡◌, sym, ◌∙◌, ap, subst}
use mathlib.Core.Logic.{inl, inr}
use Prim.Native.Nat.{ℕ, suc, ◌+◌, ◌-◌, ◌≤◌, ◌<◌}
use native.Mathlib.Nat.{add_assoc}
use native.Mathlib.Numerals.{add-one}
use native.Mathlib.Omega.{arith}
use native.Mathlib.Decide.{ℕ_discrete}
use lib.ListN.{length, set}
use lib.Seq.{get_or-set_same, get_or-set_other}
use borrow.Author.Tests.{ltb-true}
use Rattle.laws.specs.Search.{at, nowhere, place_or}
use Rattle.laws.proofs.Cases.{lt_or_le}
use Rattle.model.specs.Task.{Table}
use Rattle.model.specs.Demand.{frame, offset}
use Rattle.model.specs.Weave.{Runs, earliest, some_left, earlier, foremost, taken_by, weave}
use Rattle.model.proofs.CyclicLaws.{frame_next, offset_next}
use Rattle.model.proofs.OrderLaws.{key_strict}
use Rattle.model.proofs.PickLaws.{Passing, pick_is}
use Rattle.model.proofs.PickRight.{Picked, pick_right}
use Rattle.model.proofs.WeaveLaws.{task_at, taken_here, taken_other, taken_all, weave_request, weave_chosen}
use Rattle.overload.specs.Lanes.{lane, front, next_request, lane_moved, Stand}
use Rattle.overload.specs.declared.lanes.Lanes.{Lanes}
use Rattle.overload.proofs.StandLaws.{stand_frame, stand_arrival, stand_front}

-- ---- i requests are taken

module _ {table : Table} {runs : Runs} {lanes : Lanes} {i : ℕ} (stand : Stand table runs (taken_by table runs i) lanes)
    (within : i ≤ (weave table runs).count) where
  abbrev taken : ℕ → ℕ
  taken = taken_by table runs i

  -- a task with a request left is found: request i is its next
  module _ {k : ℕ} (found : front table.tasks lanes ≡ at k) where
    passing : Passing (some_left table runs taken) (earlier table runs taken) table.tasks k
    passing = pick_is _ _ table.tasks k (sym (stand_front stand) ∙ found)

    turn_task : task_at table runs i ≡ k
    unfolding foremost
    turn_task = ap (place_or 0) (sym (stand_front stand) ∙ found)

    pub turn_known : k < table.tasks
    turn_known = passing.below

    pub turn_left : taken k < runs.many k
    turn_left = ltb-true (taken k) (runs.many k) passing.passes

    pub turn_listed : i < (weave table runs).count
    turn_listed =
        elim (lt_or_le i (weave table runs).count) [
          | inl less ↦ less
          | inr over ↦
              let end : i ≡ (weave table runs).count = omega arith in
              let same = ap (λ (n : ℕ). taken_by table runs n k) end in
              absurd (omega (arith, turn_left, taken_all table runs k turn_known, same))
        ]

    pub turn_request : (weave table runs).request i ≡ next_request (lane lanes k) k
    turn_request =
        weave_request table runs i
        ∙ ap (λ (j : ℕ). earliest table runs j (taken j)) turn_task
        ∙ sym (stand.next_is k turn_known)

    -- it is taken
    abbrev moved : Lanes
    moved = record { each = set lanes.each k (lane_moved (table.task k) (lane lanes k)) }

    one_more : taken_by table runs (suc i) k ≡ taken k + 1
    one_more = taken_here table runs i k turn_task

    module _ (j : ℕ) (differ : j ≡ k → ⊥) where
      there : lane moved j ≡ lane lanes j
      there = get_or-set_other lanes.each k j _ _ differ

      same_taken : taken_by table runs (suc i) j ≡ taken j
      same_taken = taken_other table runs i j (λ same. differ (sym same ∙ turn_task))

    module _ (low : k < length lanes.each) where
      here : lane moved k ≡ lane_moved (table.task k) (lane lanes k)
      here = get_or-set_same lanes.each k _ _ low

      left_here : (lane moved k).left ≡ runs.many k - taken_by table runs (suc i) k
      unfolding lane_moved
      left_here = ap (λ x. x.left) here ∙ omega (arith, stand.left_is k turn_known, one_more)

      next_here : next_request (lane moved k) k ≡ earliest table runs k (taken_by table runs (suc i) k)
      unfolding lane_moved
      next_here =
          let task = table.task k in
          let start = runs.start k in
          rw (
            here,
            one_more ∙ add-one (taken k),
            ← frame_next task start (taken k),
            offset_next task start (taken k),
            ← add_assoc (runs.from k) (offset task start (taken k)) (task.P (frame task start (taken k))),
            stand_frame stand k turn_known,
            stand_arrival stand k turn_known,
          )

      pub turn_stand : Stand table runs (taken_by table runs (suc i)) moved
      turn_stand =
          record {
            left_is = λ j inside.
                elim (ℕ_discrete j k) [
                  | yes same ↦ rw same left_here
                  | no differ ↦ rw (there j differ, same_taken j differ) (stand.left_is j inside)
                ];
            next_is = λ j inside.
                elim (ℕ_discrete j k) [
                  | yes same ↦ rw same next_here
                  | no differ ↦ rw (there j differ, same_taken j differ) (stand.next_is j inside)
                ];
          }

  -- none is found
  module _ (none : front table.tasks lanes ≡ nowhere) where
    none_left : (k : ℕ) → k < table.tasks → some_left table runs taken k ≡ false
    none_left =
        subst (Picked (some_left table runs taken) (earlier table runs taken) table.tasks)
        (sym (stand_front stand) ∙ none)
        (pick_right _ _ (key_strict (λ k. (earliest table runs k (taken k)).arrival)) table.tasks)

    pub stand_end : i ≡ (weave table runs).count
    stand_end =
        elim (lt_or_le i (weave table runs).count) [
          | inl less ↦
              let chosen = weave_chosen table runs i less in
              absurd (false≢true (sym (none_left _ chosen.inside) ∙ chosen.passes))
          | inr over ↦ omega arith
        ]
