-- The table that good bytes are: document 01, "A table, record by record".
-- Assumes nothing.
use Rattle.std.specs.Prelude.{ℕ, ◌+◌, ◌-◌, List, ltb, eqb}
use Rattle.laws.specs.Sums.{tally, tabulate}
use Rattle.model.specs.Task.{Task, Table}
use Rattle.table.specs.declared.plan.Plan.{Plan}
use Rattle.table.specs.Bytes.{records, record_of}

-- how many of the first n records are of a task below k; and of task k
unfoldable pub records_before : ℕ → List ℕ → ℕ → ℕ
records_before n s k = tally n (λ i. ltb (record_of s i).task k)

unfoldable pub records_of : ℕ → List ℕ → ℕ → ℕ
records_of n s k = tally n (λ i. eqb (record_of s i).task k)

-- the task whose frames are `count` records from record `first` on
unfoldable pub task_of : List ℕ → ℕ → ℕ → Task
task_of s first count =
    record {
      count = count;
      E = λ i. (record_of s (first + i)).e;
      D = λ i. (record_of s (first + i)).d;
      P = λ i. (record_of s (first + i)).p;
    }

-- "A task is a run of records with one number": after the records of the tasks before it
abbrev pub table_of : List ℕ → Table
table_of s =
    record {
      tasks = (record_of s (records s - 1)).task + 1;
      task = λ k. task_of s (records_before (records s) s k) (records_of (records s) s k);
    }

-- where each task begins, and after the last task the end
unfoldable pub plan_of : List ℕ → ℕ → ℕ → Plan
plan_of s n tasks = record { tasks = tasks; first = tabulate 17 (records_before n s) }
