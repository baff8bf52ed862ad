-- The bytes of one request record, the list that they are, and the bytes of a list: document 01, "The replay bench".
-- Assumes nothing.
use Rattle.std.specs.Prelude.{ℕ, zero, suc, ◌+◌, ◌*◌, ◌/◌, ◌%◌, List, [], ◌∷◌, ◌++◌, length, get_or}
use Rattle.model.specs.Request.{Request, Requests}
use Rattle.table.specs.Bytes.{half}
use Rattle.requests.specs.declared.entry.Entry.{Entry}

-- "A request record is 8 bytes": its own number, whatever a table's record has
abbrev pub entry_size : ℕ
entry_size = 8

-- how many whole request records the bytes are
abbrev pub entries : List ℕ → ℕ
entries s = length s / entry_size

-- "A list has 0 to 128 records"
abbrev pub most_requests : ℕ
most_requests = 128

-- "32 bits low byte first"
abbrev pub word : List ℕ → ℕ → ℕ
word s at = half s at + 65536 * half s (at + 2)

-- "task, frame, two zero bytes, arrival as 32 bits low byte first"
unfoldable pub entry_of : List ℕ → ℕ → Entry
entry_of s i =
    record {
      task = get_or s (i * entry_size) 0;
      frame = get_or s (i * entry_size + 1) 0;
      pad = half s (i * entry_size + 2);
      arrival = word s (i * entry_size + 4);
    }

abbrev pub request_in : Entry → Request
request_in x = record { task = x.task; frame = x.frame; arrival = x.arrival }

-- the list that the bytes are
abbrev pub list_of : List ℕ → Requests
list_of s = record { count = entries s; request = λ i. request_in (entry_of s i) }

-- ---- the other way: a list as bytes

-- the greatest number of 32 bits
abbrev pub widest : ℕ
widest = 4294967295

-- where the arrival is at most that, its fourth byte is all that is left
abbrev pub entry_bytes : Request → List ℕ
entry_bytes x =
    let a = x.arrival in
    x.task ∷ x.frame ∷ 0 ∷ 0 ∷ a % 256 ∷ a / 256 % 256 ∷ a / 65536 % 256 ∷ a / 16777216 ∷ []

-- the first n requests of a list, and all of them
unfoldable pub bytes_to : Requests → ℕ → List ℕ
bytes_to list zero = []
bytes_to list (suc n) = bytes_to list n ++ entry_bytes (list.request n)

abbrev pub bytes_of : Requests → List ℕ
bytes_of list = bytes_to list list.count
