-- The lanes lead through the turns of the weave: where they stand at their start, and that their front is the task of
-- the next request.
-- Assumes nothing.
use mathlib.Core.Path.{◌≡◌, sym, ◌∙◌, ap, ap₂}
use mathlib.Core.Logic.{inl, inr}
use Prim.Native.Nat.{ℕ, ◌+◌, ◌-◌, ◌<◌}
use native.Mathlib.Nat.{add-zero}
use native.Mathlib.Omega.{arith}
use lib.Dec.{ltb}
use borrow.Author.Tests.{lt-ltb, le-ltb}
use Rattle.laws.proofs.Cases.{lt_or_le}
use Rattle.model.specs.Task.{Table}
use Rattle.model.specs.Demand.{frame, offset}
use Rattle.model.specs.Machine.{pick}
use Rattle.model.specs.Weave.{Runs, some_left, earlier, taken_by}
use Rattle.model.proofs.CyclicLaws.{frame_none, offset_none}
use Rattle.model.proofs.PickSame.{pick_cong}
use Rattle.model.proofs.WeaveLaws.{taken_start}
use Rattle.overload.specs.Lanes.{lane, front, Stand, runs_of, Puts}
use Rattle.overload.specs.declared.lanes.Lanes.{Lanes}

-- no request is taken, and each task's first is the next
pub stand_start : {table : Table} {lanes : Lanes} {room : ℕ} → Puts table (runs_of lanes) room
    → Stand table (runs_of lanes) (taken_by table (runs_of lanes) 0) lanes
stand_start {table} {lanes} puts =
    let runs = runs_of lanes in
    record {
      left_is = λ k inside. omega (arith, taken_start table runs k);
      next_is = λ k inside.
          rw (taken_start table runs k, frame_none (table.task k) _ (puts.inside k inside), offset_none, add-zero);
    }

-- ---- the front

-- some are left where fewer are taken
some_less : (taken many : ℕ) → ltb 0 (many - taken) ≡ ltb taken many
some_less taken many =
    elim (lt_or_le taken many) [
      | inl fewer ↦ lt-ltb 0 (many - taken) (omega arith) ∙ sym (lt-ltb taken many fewer)
      | inr all ↦ le-ltb 0 (many - taken) (omega arith) ∙ sym (le-ltb taken many all)
    ]

module _ {table : Table} {runs : Runs} {taken : ℕ → ℕ} {lanes : Lanes} (stand : Stand table runs taken lanes) where
  module _ (k : ℕ) (inside : k < table.tasks) where
    pub stand_frame : (lane lanes k).frame ≡ frame (table.task k) (runs.start k) (taken k)
    stand_frame = ap (λ x. x.frame) (stand.next_is k inside)

    pub stand_arrival : (lane lanes k).arrival ≡ runs.from k + offset (table.task k) (runs.start k) (taken k)
    stand_arrival = ap (λ x. x.arrival) (stand.next_is k inside)

  pub stand_front : front table.tasks lanes ≡ pick (some_left table runs taken) (earlier table runs taken) table.tasks
  unfolding front
  stand_front =
      pick_cong table.tasks
      (record {
        tests = λ k inside. ap (ltb 0) (stand.left_is k inside) ∙ some_less (taken k) (runs.many k);
        orders = λ i j one other. ap₂ ltb (stand_arrival i one) (stand_arrival j other);
      })
