-- The tables and lists that document 01 names, "Numbers to hold it to", as bytes.
-- Assumes nothing.
use Rattle.std.specs.Prelude.{List, [], ◌∷◌, ◌++◌, ℕ, ◌/◌, ◌%◌}

-- one record, of which every table here is made: "E, D, P, each 16 bits, low byte first". Where one of them is at most
-- 65,535, its second byte is all that is left
abbrev pub rec : ℕ → ℕ → ℕ → ℕ → ℕ → List ℕ
rec task kind e d p = task ∷ kind ∷ e % 256 ∷ e / 256 ∷ d % 256 ∷ d / 256 ∷ p % 256 ∷ p / 256 ∷ []

-- "A is task 0, kind 3 .. E 1,2,5,1; D 2,2,8,5; P 3,2,3,4."
unfoldable pub A : List ℕ
A = rec 0 3 1 2 3 ++ rec 0 3 2 2 2 ++ rec 0 3 5 8 3 ++ rec 0 3 1 5 4

-- "Sporadic tasks are written (E,D,P)."
abbrev pub sporadic : ℕ → ℕ → ℕ → ℕ → List ℕ
sporadic task e d p = rec task 1 e d p

-- "B is A with (1,2,10) as task 1"
unfoldable pub B : List ℕ
B = A ++ sporadic 1 1 2 10

-- a frame of kind 2, D = P
abbrev pub multi : ℕ → ℕ → ℕ → List ℕ
multi task e p = rec task 2 e p p

-- "F is from 003, table 3.2, kind 2, D = P: (1) at 3; (2) at 9; (3,1) at 18; (2,1) at 20; (6,3) at 60."
unfoldable pub F : List ℕ
F =
    multi 0 1 3 ++ multi 1 2 9 ++ multi 2 3 18 ++ multi 2 1 18 ++ multi 3 2 20 ++ multi 3 1 20
    ++ multi 4 6 60 ++ multi 4 3 60

-- K7's task: "kind 3, E 2,1,2; D 2,20,2; P 2,1,10"
unfoldable pub k7_task : List ℕ
k7_task = rec 0 3 2 2 2 ++ rec 0 3 1 20 1 ++ rec 0 3 2 2 10

-- "(2,65535,1) is undecided"
unfoldable pub each_2 : List ℕ
each_2 = sporadic 0 2 65535 1

-- "(21846,65535,1) is undecided"
unfoldable pub each_21846 : List ℕ
each_21846 = sporadic 0 21846 65535 1

-- "(32769,65535,1) is overloaded at 65,536, margin -2."
unfoldable pub each_32769 : List ℕ
each_32769 = sporadic 0 32769 65535 1

-- "(65535,65535,65535) fits: window 65,535, margin 0 there."
unfoldable pub longest : List ℕ
longest = sporadic 0 65535 65535 65535

-- one request, of which every list here is made: task, frame, an arrival below 256. Written out, and not by
-- `entry_bytes`, so that a row with a list says which bytes those are
abbrev pub req : ℕ → ℕ → ℕ → List ℕ
req task frame arrival = task ∷ frame ∷ 0 ∷ 0 ∷ arrival ∷ 0 ∷ 0 ∷ 0 ∷ []

-- "Whole list, 16 bytes: 00 01 00 00 00 00 00 00 01 00 00 00 00 00 00 00."
unfoldable pub b_list : List ℕ
b_list = req 0 1 0 ++ req 1 0 0

-- "The list has four requests: task 0 frame 0 at 0, task 1 frame 0 at 0, task 0 frame 1 at 2, task 0 frame 2 at 3."
unfoldable pub four : List ℕ
four = req 0 0 0 ++ req 1 0 0 ++ req 0 1 2 ++ req 0 2 3

-- "a 20-byte buffer": no two bytes the same, and none of them in B's list
unfoldable pub twenty : List ℕ
twenty =
    100 ∷ 101 ∷ 102 ∷ 103 ∷ 104 ∷ 105 ∷ 106 ∷ 107 ∷ 108 ∷ 109
    ∷ 110 ∷ 111 ∷ 112 ∷ 113 ∷ 114 ∷ 115 ∷ 116 ∷ 117 ∷ 118 ∷ 119 ∷ []
