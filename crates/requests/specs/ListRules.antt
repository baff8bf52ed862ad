-- The rules 10 and 11 as the reader tests them, record by record: document 01, "When the desk says no".
-- A test's name says how the rule is broken. What each rule says, and their order: Accepted.
-- Assumes nothing.
use Rattle.std.specs.Prelude.{ℕ, ◌+◌, Bool, false, not, ◌&&◌, ◌||◌, ltb, eqb, get_or, set, replicate, Option}
use Rattle.std.specs.Prelude.{Some, None}
use Rattle.model.specs.Task.{Table}
use Rattle.model.specs.Demand.{frame}
use Rattle.model.specs.Request.{no_frame}
use Rattle.requests.specs.declared.entry.Entry.{Entry}
use Rattle.requests.specs.declared.list_rules.Carry.{Carry}
use Rattle.requests.specs.declared.list_rules.Turn.{Turn}

-- before the first record any may come
abbrev pub nothing_carried : Carry
nothing_carried = record { arrival = 0; task = 0; turns = replicate 16 None }

-- "sorted by arrival and at equal arrivals by strictly rising task number"
abbrev pub out_of_order : Carry → Entry → Bool
out_of_order b x = ltb x.arrival b.arrival || (eqb x.arrival b.arrival && ltb x.task b.task)

-- 10: "pad not zero, unknown task or frame, arrival too large, order broken". The last arrival is told
abbrev pub misplaced : ℕ → Table → Carry → Entry → Bool
misplaced last table b x =
    not (eqb x.pad 0) || (no_frame table x.task x.frame || (ltb last x.arrival || out_of_order b x))

-- 11: "next request has the wrong frame or comes too soon". Nothing is asked of a task's first request
abbrev pub off_turn : Option Turn → Entry → Bool
off_turn None x = false
off_turn (Some turn) x = not (eqb x.frame turn.frame) || ltb x.arrival turn.soonest

abbrev pub out_of_turn : Carry → Entry → Bool
out_of_turn b x = off_turn (get_or b.turns x.task None) x

-- ---- what is known after a good record

-- the task's next frame, and the soonest that it may come
abbrev pub soonest : Table → Entry → ℕ
soonest table x = x.arrival + (table.task x.task).P x.frame

abbrev pub turn_after : Table → Entry → Turn
turn_after table x = record { frame = frame (table.task x.task) x.frame 1; soonest = soonest table x }

abbrev pub list_after : Table → Carry → Entry → Carry
list_after table b x =
    record {
      arrival = x.arrival;
      task = x.task + 1;
      turns = set b.turns x.task (Some (turn_after table x));
    }
