-- The frames of a table are its records, one for one: each frame is a record, and each record is a frame.
-- Assumes nothing.
use Prim.Native.Nat.{ℕ, ◌+◌, ◌-◌, ◌<◌}
use mathlib.Core.Path.{◌≡◌, refl, ◌∙◌, ap}
use mathlib.Core.Logic.{inl, inr}
use mathlib.Core.List.{List}
use native.Mathlib.Omega.{arith}
use Rattle.laws.proofs.Cases.{lt_or_le}
use Rattle.model.specs.Request.{HasFrame}
use Rattle.table.specs.Bytes.{records, record_of}
use Rattle.table.specs.WellFormed.{WellFormed}
use Rattle.table.specs.TableOf.{records_before, records_of, table_of}
use Rattle.table.proofs.Rising.{before_in, last_record}
use Rattle.table.proofs.Runs.{run_within, task_inside}
use Rattle.table.proofs.TaskLaws.{task_count, task_E, task_D, task_P}

-- frame i of task k is record j
pub record IsRecord (s : List ℕ) (k i j : ℕ) : Type 0 where
  pub has : HasFrame (table_of s) k i
  pub inside : j < records s
  pub e : ((table_of s).task k).E i ≡ (record_of s j).e
  pub d : ((table_of s).task k).D i ≡ (record_of s j).d
  pub p : ((table_of s).task k).P i ≡ (record_of s j).p

module _ {s : List ℕ} where
  -- the frame's record is that many after the task's first
  pub frame_record : {k i : ℕ} → HasFrame (table_of s) k i → IsRecord s k i (records_before (records s) s k + i)
  frame_record {k} {i} has =
      record {
        has = has;
        inside = omega (
          arith,
          has.frame,
          task_count s (records_before (records s) s k) (records_of (records s) s k),
          run_within (records s) s k,
        );
        e = task_E s _ _ i;
        d = task_D s _ _ i;
        p = task_P s _ _ i;
      }

module _ {s : List ℕ} (well : WellFormed s) (j : ℕ) (inside : j < records s) where
  -- no record is of a task past the last record's
  task_there : (record_of s j).task < (table_of s).tasks
  task_there =
      let k = (record_of s j).task in
      elim (lt_or_le (record_of s (records s - 1)).task k) [
        | inl past ↦ absurd (omega (
          arith,
          before_in well k (records s - 1) (last_record well) past,
          (task_inside well k j inside refl).from,
        ))
        | inr within ↦ omega arith
      ]

  -- the record is that frame of its task which comes as many records after the task's first
  pub record_frame : IsRecord s (record_of s j).task (j - records_before (records s) s (record_of s j).task) j
  record_frame =
      let k = (record_of s j).task in
      let run = task_inside well k j inside refl in
      let before = records_before (records s) s k in
      let count = task_count s before (records_of (records s) s k) in
      let here : before + (j - before) ≡ j = omega (arith, run.from) in
      let below : j - before < ((table_of s).task k).count = omega (arith, run.from, run.to) in
      let it = frame_record (record { task = task_there; frame = below }) in
      record {
        has = it.has;
        inside = inside;
        e = it.e ∙ ap (λ (m : ℕ). (record_of s m).e) here;
        d = it.d ∙ ap (λ (m : ℕ). (record_of s m).d) here;
        p = it.p ∙ ap (λ (m : ℕ). (record_of s m).p) here;
      }
