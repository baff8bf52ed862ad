-- The named numbers of document 01, "Numbers to hold it to": a row for each, a question on bytes and its answer.
-- Assumes nothing.
use Rattle.std.specs.Prelude.{◌≡◌, List, [], ◌∷◌, ◌++◌, ℕ, pos, negsuc, replicate}
use Rattle.model.specs.Verdict.{Verdict, overloaded, fits}
use Rattle.model.specs.Replay.{missed}
use Rattle.model.specs.Response.{on_time}
use Rattle.model.specs.Answer.{Answer, answered, refused}
use Rattle.promise.specs.Tables.{sporadic, A, B, b_list, F, k7_task, four, twenty}
use Rattle.promise.specs.Asked as Ask
use Rattle.promise.specs.Asked.{Question, row}

-- a question on bytes, what the rules say to it, and what a lent buffer holds afterwards
pub record Named : Type 0 where
  pub bytes : List ℕ
  pub question : Question
  pub says : Answer (row bytes question).Says
  pub leaves : List ℕ

abbrev pub IsSaid : Named → Type 0
IsSaid n =
    ((row n.bytes n.question).said ≡ n.says) × ((row n.bytes n.question).after ≡ n.leaves)

abbrev of_A : ℕ → ℕ → Named
of_A t n = record { bytes = A; question = Ask.demand 0 t; says = answered n; leaves = [] }

abbrev judged : List ℕ → Verdict → Named
judged s v = record { bytes = s; question = Ask.verdict; says = answered v; leaves = [] }

abbrev writes : List ℕ → List ℕ → ℕ → Answer (List ℕ) → List ℕ → Named
writes s buffer place list after =
    record { bytes = s; question = Ask.overload buffer place; says = list; leaves = after }

abbrev on_F : ℕ → ℕ → ℕ → ℕ → Named
on_F task frame value rounds =
    record { bytes = F; question = Ask.response task frame; says = answered (on_time value rounds); leaves = [] }

-- ---- those that are cited, by name

-- "A fits: window 8, least margin 0 at t = 2"
abbrev pub K2 : Named
K2 = judged A (fits 8 (pos 0) 2)

-- "B is A with (1,2,10) as task 1: overloaded at 2, margin -1, starts 1, 0, then zeros. Whole list, 16 bytes"
abbrev pub K4 : Named
K4 = judged B (overloaded 2 (negsuc 0) (1 ∷ replicate 15 0))

abbrev pub k4_list : Named
k4_list = writes B (replicate 16 255) 0 (answered b_list) b_list

-- "In a 20-byte buffer from place 2, bytes 0, 1, 18, 19 stay; from place 5, refusal 12."
abbrev pub k4_place_2 : Named
k4_place_2 = writes B twenty 2 (answered b_list) ((100 ∷ 101 ∷ b_list) ++ 118 ∷ 119 ∷ [])

abbrev pub k4_place_5 : Named
k4_place_5 = writes B twenty 5 (refused 12 0) twenty

-- "B's list replayed: miss at tick 2, record 1"
abbrev pub K5 : Named
K5 = record { bytes = B; question = Ask.replay b_list; says = answered (missed 2 1); leaves = [] }

-- "(1,1,1) fits: window 1, margin 0 at 1"
abbrev pub K6 : Named
K6 = judged (sporadic 0 1 1 1) (fits 1 (pos 0) 1)

-- "Task 3 frame 0 goes 2, 8, 10, 13, 14: 4 rounds."
abbrev pub k8_task_3 : Named
k8_task_3 = on_F 3 0 14 4

-- ---- the table

unfoldable pub named : List Named
named =
    -- K1 demand of A at 1, 2, 5, 8, 9, 10, 11, 14: 0, 2, 3, 6, 7, 8, 9, 11
    of_A 1 0 ∷ of_A 2 2 ∷ of_A 5 3 ∷ of_A 8 6 ∷ of_A 9 7 ∷ of_A 10 8 ∷ of_A 11 9 ∷ of_A 14 11
    ∷ K2
    -- K3 A with (1,4,12) as task 1 fits: window 10, least margin 0 at 2
    ∷ judged (A ++ sporadic 1 1 4 12) (fits 10 (pos 0) 2)
    ∷ K4 ∷ k4_list ∷ k4_place_2 ∷ k4_place_5
    ∷ record { bytes = B; question = Ask.overload_size; says = answered 16; leaves = [] }
    ∷ K5
    -- and two of (1,1,1): overloaded at 1, margin -1
    ∷ K6
    ∷ judged (sporadic 0 1 1 1 ++ sporadic 1 1 1 1) (overloaded 1 (negsuc 0) (replicate 16 0))
    -- K7 kind 3, E 2,1,2; D 2,20,2; P 2,1,10: demand at 5 is 4
    ∷ record { bytes = k7_task; question = Ask.demand 0 5; says = answered 4; leaves = [] }
    -- K7's task with (2,5,10) as task 1: overloaded at 5, margin -1, starts all 0; the list has four requests
    ∷ judged (k7_task ++ sporadic 1 2 5 10) (overloaded 5 (negsuc 0) (replicate 16 0))
    ∷ writes (k7_task ++ sporadic 1 2 5 10) (replicate 32 255) 0 (answered four) four
    -- K8 F, peak frames: responses 1, 3, 8, 14, 32; task 3 frame 0: 4 rounds; task 4 frame 0: 6 rounds
    ∷ on_F 0 0 1 0 ∷ on_F 1 0 3 1 ∷ on_F 2 0 8 3 ∷ k8_task_3 ∷ on_F 4 0 32 6
    -- K9 F, task 3 frame 1: response 9, 2 rounds
    ∷ on_F 3 1 9 2
    ∷ []
