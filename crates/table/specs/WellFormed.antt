-- Which bytes are a table, said of the bytes alone: document 01, "A table, record by record".
-- Assumes nothing.
use Rattle.std.specs.Prelude.{ℕ, ◌+◌, ◌*◌, ◌%◌, ◌≤◌, ◌<◌, ◌≡◌, ◌⊎◌, List, [], ◌∷◌, length}
use Rattle.laws.specs.Ladder.{Rule, rule}
use Rattle.table.specs.declared.record.Record.{Record}
use Rattle.table.specs.declared.rules.SoFar.{SoFar}
use Rattle.table.specs.Bytes.{size, most_records, records, record_of}
use Rattle.table.specs.TableRules.{off_run, bad_kind, too_many, has_zero, uneven}

-- records i and j, i the earlier, are frames of one task
pub record SameTask (s : List ℕ) (i j : ℕ) : Type 0 where
  pub earlier : i < j
  pub same : (record_of s i).task ≡ (record_of s j).task

-- rule 1: the length
pub record TableLengthRight (n : ℕ) : Type 0 where
  pub some : 1 ≤ n
  pub few : n ≤ most_records * size
  pub whole : n % size ≡ 0

-- rule 2: "A task is a run of records with one number; the first is task 0 and each next task is one more."
pub record InRun (s : List ℕ) (j : ℕ) : Type 0 where
  pub low : (record_of s j).task ≤ 15
  pub opens : j ≡ 0 → (record_of s j).task ≡ 0
  pub run : (i : ℕ) → i + 1 ≡ j →
      ((record_of s j).task ≡ (record_of s i).task) ⊎ ((record_of s j).task ≡ (record_of s i).task + 1)

-- rule 3: kinds 1 to 3, one kind in a task, and "Kind 1 is sporadic (one frame)"
pub record KindRight (s : List ℕ) (j : ℕ) : Type 0 where
  pub low : 1 ≤ (record_of s j).kind
  pub high : (record_of s j).kind ≤ 3
  pub one : (i : ℕ) → SameTask s i j → (record_of s j).kind ≡ (record_of s i).kind
  pub lone : (i : ℕ) → SameTask s i j → (record_of s j).kind ≡ 1 → ⊥

-- rule 4: at most "16 frames in a task"
abbrev pub HasRoom : List ℕ → ℕ → Type 0
HasRoom s j = (i : ℕ) → SameTask s i j → j < i + 16

-- rule 5: "E, D and P are each 1 to 65,535"
pub record NotZero (s : List ℕ) (j : ℕ) : Type 0 where
  pub e : 1 ≤ (record_of s j).e
  pub d : 1 ≤ (record_of s j).d
  pub p : 1 ≤ (record_of s j).p

-- rule 6: "Kind 2 is multiframe: every D equals its P, and all P of the task are equal."
pub record Even (s : List ℕ) (j : ℕ) : Type 0 where
  pub due : (record_of s j).kind ≡ 2 → (record_of s j).d ≡ (record_of s j).p
  pub steady : (i : ℕ) → SameTask s i j → (record_of s j).kind ≡ 2 → (record_of s j).p ≡ (record_of s i).p

-- "in each record 2, 3, 4, 5, 6": each rule's number; its test, of record x after what is known, b; and what it says
-- of record j of the bytes s
abbrev pub table_rules : List (Rule (SoFar × Record) (List ℕ × ℕ))
table_rules =
    rule 2 (λ (b, x). off_run b x) (λ (s, j). InRun s j)
    ∷ rule 3 (λ (b, x). bad_kind b x) (λ (s, j). KindRight s j)
    ∷ rule 4 (λ (b, x). too_many b x) (λ (s, j). HasRoom s j)
    ∷ rule 5 (λ (b, x). has_zero x) (λ (s, j). NotZero s j)
    ∷ rule 6 (λ (b, x). uneven b x) (λ (s, j). Even s j)
    ∷ []

-- record j keeps them all
pub record GoodRecord (s : List ℕ) (j : ℕ) : Type 0 where
  pub in_run : InRun s j
  pub kind_right : KindRight s j
  pub has_room : HasRoom s j
  pub not_zero : NotZero s j
  pub even : Even s j

pub record WellFormed (s : List ℕ) : Type 0 where
  pub long : TableLengthRight (length s)
  pub good : (j : ℕ) → j < records s → GoodRecord s j
