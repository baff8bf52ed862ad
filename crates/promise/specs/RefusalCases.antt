-- The numbers of document 01's table, "When the desk says no"; and for each of its refusals questions that get it, in
-- each way that the document names. 13 is not among them, for no verdict of a table that fits is computed here:
-- RefusalExamples has it. A new refusal is its number and its cases.
-- Assumes nothing.
use Rattle.std.specs.Prelude.{List, [], ◌∷◌, ◌++◌, ℕ, zero, suc, ◌≤◌, ◌<◌, length, get_or, set}
use Rattle.promise.specs.Tables.{rec, sporadic, A, B, req, twenty}
use Rattle.promise.specs.Asked.{Question, demand, work, margin, verdict, replay, overload, response, row}

-- ---- the numbers

-- the last of them
abbrev pub last_refusal : ℕ
last_refusal = 13

-- a number of the table. It is not 0, which an answer has where nothing was refused: a caller may test it for that
pub record NumbersOne (number : ℕ) : Type 0 where
  pub from : 1 ≤ number
  pub to : number ≤ last_refusal

-- ---- the cases

-- the question, asked of the bytes, is refused with this number and this record
pub record Case : Type 0 where
  pub bytes : List ℕ
  pub question : Question
  pub number : ℕ
  pub index : ℕ

-- and its refusal is the one that the document gives it
abbrev pub IsGiven : Case → Type 0
IsGiven c = (row c.bytes c.question).Given c.number c.index

abbrev pub refuses : List ℕ → Question → ℕ → ℕ → Case
refuses s question number index = record { bytes = s; question = question; number = number; index = index }

abbrev no_table : List ℕ → ℕ → ℕ → Case
no_table s number index = refuses s verdict number index

abbrev no_list : List ℕ → ℕ → ℕ → Case
no_list list number index = refuses B (replay list) number index

-- n times the bytes s
unfoldable pub times : ℕ → List ℕ → List ℕ
times zero s = []
times (suc n) s = s ++ times n s

-- n sporadic tasks
unfoldable pub tasks : ℕ → List ℕ
tasks zero = []
tasks (suc n) = tasks n ++ sporadic n 1 1 1

unfoldable pub cases : List Case
cases =
    -- 1: "table length 0, above 512, or not a multiple of 8"
    no_table [] 1 0 ∷ no_table (times 65 (sporadic 0 1 1 1)) 1 0 ∷ no_table (0 ∷ []) 1 0
    -- 2: "task number above 15, or not the run described above"
    ∷ no_table (tasks 17) 2 16 ∷ no_table (sporadic 1 1 1 1) 2 0 ∷ no_table (sporadic 0 1 1 1 ++ sporadic 2 1 1 1) 2 1
    -- 3: "kind not 1 to 3, differs inside a task, or second frame of kind 1"
    ∷ no_table (rec 0 4 1 1 1) 3 0 ∷ no_table (rec 0 3 1 1 1 ++ rec 0 2 1 1 1) 3 1
    ∷ no_table (sporadic 0 1 1 1 ++ sporadic 0 1 1 1) 3 1
    -- 4: "seventeenth frame of a task"
    ∷ no_table (times 17 (rec 0 3 1 1 1)) 4 16
    -- 5: "E, D or P is zero"
    ∷ no_table (rec 0 3 0 1 1) 5 0 ∷ no_table (rec 0 3 1 0 1) 5 0 ∷ no_table (rec 0 3 1 1 0) 5 0
    -- 6: "kind 2 with D not P, or P unlike the task's first"
    ∷ no_table (rec 0 2 1 1 2) 6 0 ∷ no_table (rec 0 2 1 1 1 ++ rec 0 2 1 2 2) 6 1
    -- 7: "t or a window asked about above 65,536"
    ∷ refuses A (demand 0 65537) 7 0 ∷ refuses A (work 0 65537) 7 0 ∷ refuses A (margin 65537) 7 0
    -- 8: "some frame of the table has D above its P", and record 2 is the "first such record"
    ∷ refuses A (response 0 0) 8 2
    -- 9: "no such task or frame"; "9 before 7", "9 then 8"
    ∷ refuses A (demand 1 0) 9 0 ∷ refuses A (response 1 0) 9 0
    ∷ refuses A (demand 1 65537) 9 0 ∷ refuses A (response 0 4) 9 0
    -- 10: "list length not a multiple of 8 or above 1,024 (index 0)"
    ∷ no_list (0 ∷ []) 10 0 ∷ no_list (times 129 (req 0 0 0)) 10 0
    -- ".. pad not zero, unknown task or frame, arrival too large, order broken"
    ∷ no_list (set (req 0 0 0) 2 1) 10 0 ∷ no_list (req 2 0 0) 10 0 ∷ no_list (req 1 1 0) 10 0
    ∷ no_list (set (req 0 0 0) 6 1) 10 0 ∷ no_list (req 1 0 0 ++ req 0 0 0) 10 1
    -- 11: "next request has the wrong frame or comes too soon"; "10 before 11"
    ∷ no_list (req 0 0 0 ++ req 0 2 3) 11 1 ∷ no_list (req 0 0 0 ++ req 0 1 2) 11 1
    ∷ no_list (req 0 0 1 ++ req 0 2 0) 10 1
    -- "one task twice at the same arrival is refusal 10"
    ∷ no_list (req 0 0 0 ++ req 0 1 0) 10 1
    -- 12: "the place lies past the buffer's end, or the list has more bytes than the buffer has from there"
    ∷ refuses B (overload [] 1) 12 0 ∷ refuses B (overload twenty 5) 12 0
    -- "Tables are tested first"
    ∷ refuses [] (demand 1 65537) 1 0 ∷ refuses [] (response 1 0) 1 0 ∷ refuses [] (replay (0 ∷ [])) 1 0
    ∷ refuses [] (overload [] 1) 1 0
    ∷ []

-- each of them; `other` stands past their end
abbrev pub CasesGiven : Type 0
CasesGiven = (i : ℕ) → i < length cases → (other : Case) → IsGiven (get_or cases i other)
