-- What the worked examples are about: the lists, jobs and schedules of document 01's tables that they look at.
-- Assumes nothing.
use Rattle.std.specs.Prelude.{◌≡◌, List, ◌++◌, ℕ, zero, suc}
use Rattle.laws.specs.Search.{at}
use Rattle.model.specs.Task.{Task}
use Rattle.model.specs.Demand.{frame, offset}
use Rattle.model.specs.Request.{Requests}
use Rattle.model.specs.Jobs.{Jobs, jobs_of}
use Rattle.model.specs.Machine.{sooner}
use Rattle.model.specs.Schedule.{Schedule, Unfinished}
use Rattle.model.specs.Service.{machine_serves}
use Rattle.table.specs.TableOf.{table_of}
use Rattle.requests.specs.Entry.{list_of}
use Rattle.promise.specs.Tables.{sporadic, A, B, req, b_list}
use Rattle.promise.specs.Promises.{OverloadShown}

-- the frames of A's task from frame 0 on, each as early as it may come
abbrev pub a_task : Task
a_task = (table_of A).task 0

abbrev pub a_round : ℕ → Requests
a_round n =
    record { count = n; request = λ i. record { task = 0; frame = frame a_task 0 i; arrival = offset a_task 0 i } }

-- the first three of them, at 0, 3 and 5
unfoldable pub a_list : List ℕ
a_list = req 0 0 0 ++ req 0 1 3 ++ req 0 2 5

-- (1,1,1), and two requests of it at 0, where the second may come at 1
abbrev pub one : List ℕ
one = sporadic 0 1 1 1

abbrev pub both : Requests
both = record { count = 2; request = λ i. record { task = 0; frame = 0; arrival = 0 } }

-- the jobs of B's list. The machine's own schedule gives both ticks to request 0, which asks for two; another gives the
-- first to request 1, which asks for no more
abbrev pub b_jobs : Jobs
b_jobs = jobs_of (table_of B) (list_of b_list)

abbrev pub its_own : Schedule
its_own = machine_serves b_jobs (sooner b_jobs)

abbrev pub other_first : Schedule
other_first zero = at 1
other_first (suc t) = at 0

-- (3,4,9) under (2,4,4)
unfoldable pub late_table : List ℕ
late_table = sporadic 0 2 4 4 ++ sporadic 1 3 4 9

-- the schedule leaves request k unfinished
pub record LeavesJob (schedule : Schedule) (k : ℕ) : Type 0 where
  pub unfinished : Unfinished b_jobs schedule
  pub is : unfinished.job ≡ k

-- the list that is written for B is the document's sixteen bytes
pub record BWritten : Type 0 where
  pub shown : OverloadShown B 2
  pub is : shown.list ≡ b_list
