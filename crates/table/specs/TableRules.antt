-- A record's rules as the reader tests them: document 01, "When the desk says no". A test's name says how the rule is
-- broken. What each rule says, and their order: WellFormed.
-- Assumes nothing.
use Rattle.std.specs.Prelude.{◌+◌, Bool, not, cond, ◌&&◌, ◌||◌, ltb, leb, eqb}
use Rattle.table.specs.declared.record.Record.{Record}
use Rattle.table.specs.declared.rules.SoFar.{SoFar}

-- before the first record there is no task
abbrev pub nothing_known : SoFar
nothing_known = record { tasks = 0; frames = 0; kind = 0; p = 0 }

-- "the first is task 0 and each next task is one more": the record begins the next task
abbrev pub begins : SoFar → Record → Bool
begins b x = eqb x.task b.tasks

-- or it is one more frame of the task before it
abbrev pub goes_on : SoFar → Record → Bool
goes_on b x = eqb (x.task + 1) b.tasks

-- 2: "task number above 15, or not the run described above"
abbrev pub off_run : SoFar → Record → Bool
off_run b x = ltb 15 x.task || not (begins b x || goes_on b x)

-- 3: "kind not 1 to 3, differs inside a task, or second frame of kind 1"
abbrev pub bad_kind : SoFar → Record → Bool
bad_kind b x =
    (ltb x.kind 1 || ltb 3 x.kind) || (goes_on b x && (not (eqb x.kind b.kind) || eqb x.kind 1))

-- 4: "seventeenth frame of a task"
abbrev pub too_many : SoFar → Record → Bool
too_many b x = goes_on b x && leb 16 b.frames

-- 5: "E, D or P is zero"
abbrev pub has_zero : Record → Bool
has_zero x = (eqb x.e 0 || eqb x.d 0) || eqb x.p 0

-- 6: "kind 2 with D not P, or P unlike the task's first"
abbrev pub uneven : SoFar → Record → Bool
uneven b x = eqb x.kind 2 && (not (eqb x.d x.p) || (goes_on b x && not (eqb x.p b.p)))

-- what is known after a good record
abbrev pub table_after : SoFar → Record → SoFar
table_after b x =
    cond (begins b x)
    (record { tasks = x.task + 1; frames = 1; kind = x.kind; p = x.p })
    (record { tasks = b.tasks; frames = b.frames + 1; kind = b.kind; p = b.p })
