-- The ways through a question about a request list: the table's refusal, the list's, then the answer.
-- Assumes nothing.
use Prim.Native.Nat.{ℕ, ◌≤◌}
use mathlib.Core.Path.{◌≡◌, refl, ap}
use mathlib.Core.List.{List}
use Rattle.std.specs.Prelude.{Result, Ok, Err}
use Rattle.model.specs.Task.{Table}
use Rattle.model.specs.Request.{Requests}
use Rattle.table.specs.declared.fault.Refusal.{Refusal}
use Rattle.table.specs.declared.task_table.TaskTable.{TaskTable}
use Rattle.table.specs.Ready.{table_in}
use Rattle.table.specs.TableReader.{reading_of}
use Rattle.table.proofs.ReadyLaws.{table_proper}
use Rattle.requests.specs.Entry.{list_of}
use Rattle.requests.specs.ListReader.{check_of}
use Rattle.requests.specs.Accepted.{Listed}
use Rattle.requests.proofs.ListReaderExact.{check_count}
use Rattle.requests.proofs.AcceptedLaws.{listed}
use Rattle.desk.specs.ListQuestions.{on_list, counts}
use Rattle.desk.specs.Said.{result_of, result_by}

-- no list is looked at beside bytes that are no table
pub list_unread : (s list : List ℕ) {no : Refusal} → reading_of s ≡ Err no → {A B : Type 0} (value : A → B)
    (ask : Table → Requests → A) → Err no ≡ result_by value (on_list s list ask)
list_unread s list told value ask = rw told refl

module _ (table : TaskTable) (list : List ℕ) where
  few : (table_in table).tasks ≤ 16
  few = (table_proper table).few

  module _ {n : ℕ} (told : check_of (table_in table) list ≡ Ok n) where
    pub list_answered : {A B : Type 0} (value : A → B) (ask : Table → Requests → A)
        → Ok (value (ask (table_in table) (list_of list))) ≡ result_by value (on_list table.bytes.now list ask)
    list_answered value ask = rw (table.read, told) refl

    -- how many records it has
    pub list_count : n ≡ (list_of list).count
    list_count = check_count (table_in table) few list n told

    -- a list that passed is one for the bench
    pub list_listed : Listed (table_in table) list n
    list_listed = listed (table_in table) few list n told

  pub list_refused : {no : Refusal} → check_of (table_in table) list ≡ Err no → {A B : Type 0} (value : A → B)
      (ask : Table → Requests → A) → Err no ≡ result_by value (on_list table.bytes.now list ask)
  list_refused told value ask = rw (table.read, told) refl

  -- what the list's own check says is the answer
  pub list_said : check_of (table_in table) list ≡ result_of (on_list table.bytes.now list counts)
  list_said = which (check_of (table_in table) list) refl
    where
      which : (r : Result ℕ Refusal) → check_of (table_in table) list ≡ r
          → check_of (table_in table) list ≡ result_of (on_list table.bytes.now list counts)
      which (Ok n) told = rw (table.read, told) (ap Ok (list_count told))
      which (Err e) told = rw (table.read, told) refl
