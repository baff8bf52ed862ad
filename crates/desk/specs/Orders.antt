-- The questions' own refusals, each order as a ladder: document 01, "When the desk says no": "Then 7 (for one task's
-- demand or work, 9 before 7); or 9 then 8; or 13 then 12". Each rule is said of the bytes of a table. A new refusal is
-- a rule, in the orders of the questions that it is for.
-- Assumes nothing.
use Rattle.std.specs.Prelude.{ℕ, ◌≤◌, ◌<◌, Bool, true, false, List, [], ◌∷◌, ltb}
use Rattle.laws.specs.Search.{Found, at, nowhere, place_or}
use Rattle.laws.specs.Ladder.{Rule, rule}
use Rattle.model.specs.Verdict.{horizon}
use Rattle.model.specs.Request.{HasFrame, no_task, no_frame}
use Rattle.table.specs.Bytes.{records}
use Rattle.table.specs.TableOf.{table_of}
use Rattle.table.specs.Deadlines.{first_above, WithinP, FirstAbove}
use Rattle.desk.specs.OverloadRules.{not_overloaded, lacks_room}

abbrev pub TestOrder : Type 1
TestOrder = List (Rule (List ℕ) (List ℕ))

-- ---- the rules

-- 7: "t or a window asked about above 65,536"
abbrev pub too_far : ℕ → Rule (List ℕ) (List ℕ)
too_far t = rule 7 (λ s. ltb horizon t) (λ s. t ≤ horizon)

-- 9: "no such task .."
abbrev pub no_such_task : ℕ → Rule (List ℕ) (List ℕ)
no_such_task k = rule 9 (λ s. no_task (table_of s) k) (λ s. k < (table_of s).tasks)

-- 9: ".. or frame"
abbrev pub no_such_frame : ℕ → ℕ → Rule (List ℕ) (List ℕ)
no_such_frame k i = rule 9 (λ s. no_frame (table_of s) k i) (λ s. HasFrame (table_of s) k i)

abbrev pub is_found : Found → Bool
is_found (at i) = true
is_found nowhere = false

-- 8: "some frame of the table has D above its P", carrying the "first such record"
abbrev pub above_P : Rule (List ℕ) (List ℕ)
above_P =
    record {
      number = 8;
      is_broken = λ s. is_found (first_above (records s) s);
      index = λ s. place_or 0 (first_above (records s) s);
      Says = λ s. WithinP s (records s);
      Carries = λ s. FirstAbove s (records s);
    }

-- ---- the orders

-- "Tables are tested first", and nothing after
abbrev pub table_only : TestOrder
table_only = []

abbrev pub time_order : ℕ → TestOrder
time_order t = too_far t ∷ []

-- "for one task's demand or work, 9 before 7"
abbrev pub task_order : ℕ → ℕ → TestOrder
task_order k t = no_such_task k ∷ too_far t ∷ []

-- "9 then 8"
abbrev pub frame_order : ℕ → ℕ → TestOrder
frame_order k i = no_such_frame k i ∷ above_P ∷ []

-- "13 then 12"
abbrev pub size_order : TestOrder
size_order = not_overloaded ∷ []

abbrev pub writing_order : List ℕ → ℕ → TestOrder
writing_order buffer place = not_overloaded ∷ lacks_room buffer place ∷ []
