-- Which bytes are a request list of a table, said of the bytes alone: document 01, "The replay bench".
-- Assumes nothing.
use Rattle.std.specs.Prelude.{ℕ, ◌+◌, ◌*◌, ◌%◌, ◌≤◌, ◌<◌, ◌≡◌, List, [], ◌∷◌, length}
use Rattle.laws.specs.Ladder.{Rule, rule}
use Rattle.model.specs.Task.{Table}
use Rattle.model.specs.Request.{HasFrame, Next, Follows, Legal, Before, Sorted, last_arrival}
use Rattle.requests.specs.declared.entry.Entry.{Entry}
use Rattle.requests.specs.declared.list_rules.Carry.{Carry}
use Rattle.requests.specs.Entry.{entry_size, entries, most_requests, entry_of, list_of}
use Rattle.requests.specs.ListRules.{misplaced, out_of_turn}

-- rule 10, the length: "A list has 0 to 128 records"
pub record ListLengthRight (n : ℕ) : Type 0 where
  pub few : n ≤ most_requests * entry_size
  pub whole : n % entry_size ≡ 0

-- rule 10: "two zero bytes", a known task and frame, arrivals 0 to `last`, the order
pub record InPlace (last : ℕ) (table : Table) (s : List ℕ) (j : ℕ) : Type 0 where
  pub pad : (entry_of s j).pad ≡ 0
  pub known : HasFrame table (entry_of s j).task (entry_of s j).frame
  pub near : ((list_of s).request j).arrival ≤ last
  pub ordered : (i : ℕ) → i + 1 ≡ j → Before ((list_of s).request i) ((list_of s).request j)

-- rule 11: its frame and its arrival follow on the task's request before it
abbrev pub InTurn : Table → List ℕ → ℕ → Type 0
InTurn table s j = (i : ℕ) → Next (list_of s) i j → Follows table ((list_of s).request i) ((list_of s).request j)

-- "in each record 10 before 11": each rule's number; its test, of record x after what is carried, b; and what it says
-- of record j of the bytes s
abbrev pub list_rules : ℕ → Table → List (Rule (Carry × Entry) (List ℕ × ℕ))
list_rules last table =
    rule 10 (λ (b, x). misplaced last table b x) (λ (s, j). InPlace last table s j)
    ∷ rule 11 (λ (b, x). out_of_turn b x) (λ (s, j). InTurn table s j)
    ∷ []

-- record j keeps them both
pub record GoodRequest (last : ℕ) (table : Table) (s : List ℕ) (j : ℕ) : Type 0 where
  pub in_place : InPlace last table s j
  pub in_turn : InTurn table s j

-- "arrivals 0 to 65,535": the rules but for the bench's limit of 128 records
pub record Lawful (table : Table) (s : List ℕ) : Type 0 where
  pub whole : length s % entry_size ≡ 0
  pub good : (j : ℕ) → j < entries s → GoodRequest last_arrival table s j

pub record Accepted (table : Table) (s : List ℕ) : Type 0 where
  pub long : ListLengthRight (length s)
  pub good : (j : ℕ) → j < entries s → GoodRequest last_arrival table s j

-- the same of the list as a whole: legal, sorted, with no late arrival, of at most 128 records, and with zero pads
pub record InRule (table : Table) (s : List ℕ) : Type 0 where
  pub long : ListLengthRight (length s)
  pub pads : (i : ℕ) → i < entries s → (entry_of s i).pad ≡ 0
  pub legal : Legal table (list_of s)
  pub sorted : Sorted (list_of s)
  pub near : (i : ℕ) → i < entries s → ((list_of s).request i).arrival ≤ last_arrival

-- what a caller that has checked a list of n records knows of it
pub record Listed (table : Table) (s : List ℕ) (n : ℕ) : Type 0 where
  pub accepted : Accepted table s
  pub count_is : n ≡ entries s
