-- The ways through a question: the table's refusal, the refusals of the question, the answer.
-- Assumes nothing.
use Prim.Native.Nat.{ℕ, ◌≤◌, ◌<◌}
use mathlib.Core.Path.{◌≡◌, refl, ap, ap₂, ◌∙◌}
use mathlib.Core.List.{List}
use borrow.Author.Tests.{lt-ltb, le-ltb, le-leb, lt-leb}
use Rattle.std.specs.Prelude.{Result, Ok, Err}
use Rattle.model.specs.Task.{Task, Table}
use Rattle.model.specs.Verdict.{horizon}
use Rattle.table.specs.declared.fault.Refusal.{Refusal}
use Rattle.table.specs.declared.reader.Shape.{Shape}
use Rattle.table.specs.declared.task_table.TaskTable.{TaskTable}
use Rattle.table.specs.Faults.{refusal_at}
use Rattle.table.specs.Ready.{table_in}
use Rattle.table.specs.TableReader.{reading_of}
use Rattle.table.specs.TableOf.{table_of}
use Rattle.table.proofs.TableReaderExact.{shaped}
use Rattle.desk.specs.Orders.{table_only}
use Rattle.desk.specs.Questions.{on_order, read_asked, one_task, at_time}
use Rattle.desk.specs.Said.{result_by, result_of}

-- what it is: nothing more is asked
pub read_said : (s : List ℕ) → reading_of s ≡ result_of (read_asked s)
unfolding read_asked
read_said s = which (reading_of s) refl
  where
    which : (r : Result Shape Refusal) → reading_of s ≡ r → reading_of s ≡ result_of (read_asked s)
    which (Ok shape) read =
        let told = shaped s shape read in
        rw read (ap Ok (ap₂ (λ r k. record { records = r; tasks = k }) told.records_are told.tasks_are))
    which (Err refusal) read = rw read refl

-- what is said of a table that was read is said of the bytes that it was read from
pub of_read : {B : Type 0} (question : List ℕ → Result B Refusal) {s : List ℕ} (table : TaskTable)
    → table.bytes.now ≡ s → {r : Result B Refusal} → r ≡ question table.bytes.now → r ≡ question s
of_read question table bytes is = is ∙ ap question bytes

module _ (s : List ℕ) (shape : Shape) (read : reading_of s ≡ Ok shape) where
  pub tasks_read : shape.tasks ≡ (table_of s).tasks
  tasks_read = (shaped s shape read).tasks_are

  -- ---- one task: 9, then 7

  module _ (sum : Task → ℕ → ℕ) (k t : ℕ) where
    pub task_missing : (table_of s).tasks ≤ k → Err (refusal_at 9 0) ≡ result_of (one_task sum s k t)
    task_missing past = rw (read, le-leb (table_of s).tasks k past) refl

    module _ (inside : k < (table_of s).tasks) where
      pub task_too_far : horizon < t → Err (refusal_at 7 0) ≡ result_of (one_task sum s k t)
      task_too_far far = rw (read, lt-leb (table_of s).tasks k inside, lt-ltb horizon t far) refl

      pub task_said : t ≤ horizon → Ok (sum ((table_of s).task k) t) ≡ result_of (one_task sum s k t)
      task_said near = rw (read, lt-leb (table_of s).tasks k inside, le-ltb horizon t near) refl

  -- ---- the whole table at a time: 7

  module _ {A : Type 0} (ask : Table → ℕ → A) (t : ℕ) where
    pub time_too_far : horizon < t → Err (refusal_at 7 0) ≡ result_of (at_time ask s t)
    time_too_far far = rw (read, lt-ltb horizon t far) refl

    pub time_said : t ≤ horizon → Ok (ask (table_of s) t) ≡ result_of (at_time ask s t)
    time_said near = rw (read, le-ltb horizon t near) refl

-- ---- the window and the verdict: nothing more

pub plain_said : {A B : Type 0} (table : TaskTable) (value : A → B) (ask : Table → A)
    → Ok (value (ask (table_in table))) ≡ result_by value (on_order table.bytes.now table_only ask)
plain_said table value ask = rw table.read refl
