-- What a table that was read is, and what is known of a task and a frame that are looked up in it.
-- Assumes nothing.
use Rattle.std.specs.Prelude.{◌≡◌, List, ℕ, ◌+◌, ◌*◌, ◌≤◌, length, Result, Ok, Err}
use Rattle.model.specs.Task.{Task, Table}
use Rattle.table.specs.Bytes.{size, records}
use Rattle.table.specs.TableOf.{records_before, records_of, task_of, table_of, plan_of}
use Rattle.table.specs.WellFormed.{WellFormed}
use Rattle.table.specs.declared.fault.Refusal.{Refusal}
use Rattle.table.specs.declared.reader.Shape.{Shape}
use Rattle.table.specs.declared.task_run.TaskRun.{TaskRun}
use Rattle.table.specs.declared.task_table.TaskTable.{TaskTable}
use Rattle.table.specs.declared.place.Place.{Place}
use Rattle.table.specs.declared.plan.Plan.{Plan}
use Rattle.table.specs.declared.record.Record.{Record}

-- the bytes are a table, and this is its plan
pub record Ready (s : List ℕ) (plan : Plan) : Type 0 where
  pub good : WellFormed s
  pub plan_is : plan ≡ plan_of s (records s) (table_of s).tasks

-- the table that was read, and the task whose records these are
abbrev pub table_in : TaskTable → Table
table_in read = table_of read.bytes.now

abbrev pub task_in : TaskRun → Task
task_in run = task_of run.bytes.now run.first run.frames

-- what a reading says of the bytes
abbrev pub shape_of : Result TaskTable Refusal → Result Shape Refusal
shape_of (Ok read) = Ok read.shape
shape_of (Err refusal) = Err refusal

-- where task k stands: after the records of the tasks before it, as many records as it has frames
pub record StandsAt (s : List ℕ) (k : ℕ) (place : Place) : Type 0 where
  pub first_is : place.first ≡ records_before (records s) s k
  pub frames_are : place.frames ≡ records_of (records s) s k
  pub inside : (place.first + place.frames) * size ≤ length s
  pub some : 1 ≤ place.frames
  pub few : place.frames ≤ 16

-- the number of frames, from which the next frame's number is found
pub record Frames (task : Task) (r : ℕ) : Type 0 where
  pub is : r ≡ task.count
  pub some : 1 ≤ r
  pub few : r ≤ 16

-- x is the record of frame i
pub record FrameIs (task : Task) (i : ℕ) (x : Record) : Type 0 where
  pub e : x.e ≡ task.E i
  pub d : x.d ≡ task.D i
  pub p : x.p ≡ task.P i
