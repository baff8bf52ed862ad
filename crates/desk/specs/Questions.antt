-- The meaning of each question that is asked of a table's raw bytes: document 01, "What the desk computes" and "When
-- the desk says no": "Tables are tested first", then the question's own order, then the answer.
-- Assumes nothing.
use Rattle.std.specs.Prelude.{ℕ, List, ℤ, length, Result, Ok, Err}
use Rattle.laws.specs.Search.{Found}
use Rattle.laws.specs.Ladder.{climb}
use Rattle.model.specs.Task.{Task, Table}
use Rattle.model.specs.Demand.{demand, work, margin}
use Rattle.model.specs.Verdict.{horizon, closing_window, Verdict, verdict}
use Rattle.model.specs.Response.{Response, response}
use Rattle.model.specs.Answer.{Answer, answered, refused}
use Rattle.table.specs.declared.reader.Shape.{Shape}
use Rattle.table.specs.declared.fault.Refusal.{Refusal}
use Rattle.table.specs.Bytes.{records}
use Rattle.table.specs.TableReader.{reading_of}
use Rattle.table.specs.TableOf.{table_of}
use Rattle.desk.specs.Orders.{TestOrder, table_only, time_order, task_order, frame_order, size_order, writing_order}
use Rattle.desk.specs.OverloadRules.{list_in}

-- the table's own refusal first; else what is said of a table
abbrev pub after_reading : {A : Type 0} → Result Shape Refusal → Answer A → Answer A
after_reading (Ok shape) said = said
after_reading (Err r) said = refused r.number r.index

abbrev pub on_table : {A : Type 0} → List ℕ → (Table → Answer A) → Answer A
on_table s ask = after_reading (reading_of s) (ask (table_of s))

-- then the refusals of an order; else the answer
abbrev pub on_order : {A : Type 0} → List ℕ → TestOrder → (Table → A) → Answer A
on_order s order ask = on_table s (λ table. climb order refused s (answered (ask table)))

-- ---- the questions

unfoldable pub read_asked : List ℕ → Answer Shape
read_asked s = on_order s table_only (λ table. record { records = records s; tasks = table.tasks })

abbrev pub one_task : (Task → ℕ → ℕ) → List ℕ → ℕ → ℕ → Answer ℕ
one_task sum s k t = on_order s (task_order k t) (λ table. sum (table.task k) t)

unfoldable pub demand_asked : List ℕ → ℕ → ℕ → Answer ℕ
demand_asked s k t = one_task demand s k t

unfoldable pub work_asked : List ℕ → ℕ → ℕ → Answer ℕ
work_asked s k w = one_task work s k w

abbrev pub at_time : {A : Type 0} → (Table → ℕ → A) → List ℕ → ℕ → Answer A
at_time ask s t = on_order s (time_order t) (λ table. ask table t)

unfoldable pub margin_asked : List ℕ → ℕ → Answer ℤ
margin_asked s t = at_time margin s t

unfoldable pub window_asked : List ℕ → Answer Found
window_asked s = on_order s table_only (closing_window horizon)

unfoldable pub verdict_asked : List ℕ → Answer Verdict
verdict_asked s = on_order s table_only (verdict horizon)

abbrev pub framed : List ℕ → ℕ → ℕ → Answer Response
framed s k i = on_order s (frame_order k i) (λ table. response table k i)

unfoldable pub response_asked : List ℕ → ℕ → ℕ → Answer Response
response_asked s k i = framed s k i

-- how many bytes the overload list has
abbrev pub sized : List ℕ → Answer ℕ
sized s = on_order s size_order (λ table. length (list_in table))

unfoldable pub size_asked : List ℕ → Answer ℕ
size_asked s = sized s

-- the bytes to be written into the buffer from the place on
abbrev pub placed : List ℕ → List ℕ → ℕ → Answer (List ℕ)
placed s buffer place = on_order s (writing_order buffer place) list_in

unfoldable pub overload_asked : List ℕ → List ℕ → ℕ → Answer (List ℕ)
overload_asked s buffer place = placed s buffer place
