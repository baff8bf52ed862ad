-- The bytes of one record: document 01, "A table, record by record".
-- Assumes nothing.
use Rattle.std.specs.Prelude.{ℕ, ◌+◌, ◌*◌, ◌/◌, List, length, get_or}
use Rattle.std.specs.Int.{w8}
use Rattle.std.proofs.Common.{Fits}
use Rattle.table.specs.declared.record.Record.{Record}

-- each is a byte: what every `&[u8]` brings with it
abbrev pub Bytes : List ℕ → Type 0
Bytes s = (i : ℕ) → Fits w8 (get_or s i 0)

-- "A table is records of 8 bytes, no header"
abbrev pub size : ℕ
size = 8

-- "At most 64 records"
abbrev pub most_records : ℕ
most_records = 64

-- how many whole records the bytes are
abbrev pub records : List ℕ → ℕ
records s = length s / size

-- "16 bits, low byte first"
abbrev pub half : List ℕ → ℕ → ℕ
half s at = get_or s at 0 + 256 * get_or s (at + 1) 0

-- "task number (1 byte), kind (1 byte), then E, D, P"
unfoldable pub record_of : List ℕ → ℕ → Record
record_of s i =
    record {
      task = get_or s (i * size) 0;
      kind = get_or s (i * size + 1) 0;
      e = half s (i * size + 2);
      d = half s (i * size + 4);
      p = half s (i * size + 6);
    }
