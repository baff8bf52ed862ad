-- What a caller that has a table and its plan knows of each task.
-- Assumes nothing.
use mathlib.Core.Path.{◌≡◌, sym, ap₂, subst}
use mathlib.Core.List.{List}
use Prim.Native.Nat.{ℕ, ◌+◌, ◌-◌, ◌≤◌, ◌<◌}
use native.Mathlib.Omega.{arith}
use lib.ListN.{get_or}
use Rattle.std.specs.Prelude.{Ok}
use Rattle.model.specs.Task.{Task, ProperTable}
use Rattle.table.specs.Bytes.{record_of}
use Rattle.table.specs.TableOf.{task_of, table_of, plan_of}
use Rattle.table.specs.TableReader.{reading_of}
use Rattle.table.specs.Ready.{Ready, StandsAt, table_in, task_in, FrameIs, Frames}
use Rattle.table.specs.declared.place.Place.{Place}
use Rattle.table.specs.declared.plan.Plan.{Plan}
use Rattle.table.specs.declared.reader.Shape.{Shape}
use Rattle.table.specs.declared.record.Record.{Record}
use Rattle.table.specs.declared.task_run.TaskRun.{TaskRun}
use Rattle.table.specs.declared.task_table.TaskTable.{TaskTable}
use Rattle.table.proofs.TableReaderExact.{Shaped, shaped}
use Rattle.table.proofs.Rising.{few_tasks}
use Rattle.table.proofs.Stands.{Planned, Plans, plans}
use Rattle.table.proofs.TaskLaws.{task_count, task_E, task_D, task_P, well_proper}

-- a caller that has read a table and made its plan is ready
pub ready_read : (s : List ℕ) (shape : Shape) {plan : Plan} → reading_of s ≡ Ok shape
    → plan ≡ plan_of s shape.records shape.tasks → Ready s plan
ready_read s shape read made =
    let told = shaped s shape read in
    record { good = told.well; plan_is = rw (told.records_are, told.tasks_are) at made }

-- a table that was read is one, and has its plan
pub read_shaped : (table : TaskTable) → Shaped table.bytes.now table.shape
read_shaped table = shaped table.bytes.now table.shape table.read

pub ready_of : (table : TaskTable) → Ready table.bytes.now table.plan
ready_of table = ready_read table.bytes.now table.shape table.read table.planned

pub table_proper : (table : TaskTable) → ProperTable (table_in table)
table_proper table = well_proper table.small (ready_of table).good

-- ---- the records of a task

-- a task's frames are as many as its records
module _ (run : TaskRun) where
  pub run_count : (task_in run).count ≡ run.frames
  run_count = task_count run.bytes.now run.first run.frames

  pub run_frames : {task : Task} → task_in run ≡ task → Frames task run.frames
  run_frames is =
      subst (λ (t : Task). Frames t run.frames) is
      (record {
        is = sym run_count;
        some = omega (arith, run.proper.some, run_count);
        few = omega (arith, run.proper.few, run_count);
      })

  pub run_has : {task : Task} {i : ℕ} → task_in run ≡ task → i < task.count → i < run.frames
  run_has is within = omega (arith, (run_frames is).is)

module _ (run : TaskRun) {i : ℕ} (within : i < run.frames) where
  pub run_frame : {x : Record} → x ≡ record_of run.bytes.now (run.first + i) → FrameIs (task_in run) i x
  run_frame is = rw is (record { e = sym (task_E _ _ _ i); d = sym (task_D _ _ _ i); p = sym (task_P _ _ _ i) })

-- the task is the records of its place
pub place_task : {s : List ℕ} {k : ℕ} {place : Place} → StandsAt s k place
    → task_of s place.first place.frames ≡ (table_of s).task k
place_task {s} stands = ap₂ (task_of s) stands.first_is stands.frames_are

-- ---- by the plan

module _ {s : List ℕ} {plan : Plan} (ready : Ready s plan) where
  all : Plans s plan
  all = plans ready.good ready.plan_is

  pub ready_tasks : plan.tasks ≡ (table_of s).tasks
  ready_tasks = all.tasks_are

  pub ready_few : (table_of s).tasks ≤ 16
  ready_few = few_tasks ready.good

  module _ (k : ℕ) (inside : k < (table_of s).tasks) where
    pub ready_low : k < 16
    ready_low = omega (arith, ready_few)

    pub ready_stands : Planned s k (get_or plan.first k 0) (get_or plan.first (k + 1) 0)
    ready_stands = all.stands k inside

    -- the place that the plan gives
    pub ready_place : StandsAt s k
        (record { first = get_or plan.first k 0; frames = get_or plan.first (k + 1) 0 - get_or plan.first k 0 })
    ready_place =
        let stands = ready_stands in
        record {
          first_is = stands.first_is;
          frames_are = stands.frames_are;
          inside = omega (arith, stands.inside, stands.ordered);
          some = stands.some;
          few = stands.few;
        }
