-- The ways through the question for a response: 9, 8, the answer.
-- Assumes nothing.
use mathlib.Core.Bool.{Bool, true, false}
use mathlib.Core.Path.{◌≡◌, refl, sym, ◌∙◌}
use Prim.Native.Nat.{ℕ}
use Rattle.std.specs.Prelude.{Ok, Err, Some, None}
use Rattle.laws.specs.Search.{option_of}
use Rattle.laws.proofs.FoundLaws.{found_some, found_none}
use Rattle.model.specs.Request.{HasFrame, no_frame}
use Rattle.model.specs.Response.{response}
use Rattle.model.proofs.FrameLaws.{catches_frame}
use Rattle.table.specs.Bytes.{records}
use Rattle.table.specs.Deadlines.{first_above}
use Rattle.table.specs.Faults.{refusal_at}
use Rattle.table.specs.Ready.{table_in}
use Rattle.table.specs.declared.task_table.TaskTable.{TaskTable}
use Rattle.response.specs.ResponseWritten.{response_of}
use Rattle.desk.specs.Questions.{framed}
use Rattle.desk.specs.Said.{result_by}

module _ (table : TaskTable) (k i : ℕ) {missing : Bool} (told : missing ≡ no_frame (table_in table) k i) where
  pub response_no_frame : missing ≡ true → Err (refusal_at 9 0) ≡ result_by response_of (framed table.bytes.now k i)
  response_no_frame gone = rw (table.read, sym told ∙ gone) refl

  module _ (there : missing ≡ false) where
    pub has_frame : HasFrame (table_in table) k i
    has_frame = (catches_frame (table_in table) k i).passed (sym told ∙ there)

    pub some_above : {index : ℕ} → Some index ≡ option_of (first_above (records table.bytes.now) table.bytes.now)
        → Err (refusal_at 8 index) ≡ result_by response_of (framed table.bytes.now k i)
    some_above found = rw (table.read, sym told ∙ there, found_some _ found) refl

    pub response_answered : None ≡ option_of (first_above (records table.bytes.now) table.bytes.now)
        → Ok (response_of (response (table_in table) k i)) ≡ result_by response_of (framed table.bytes.now k i)
    response_answered found = rw (table.read, sym told ∙ there, found_none _ found) refl
