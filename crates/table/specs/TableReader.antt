-- The answer for any bytes taken as a table: document 01, "When the desk says no".
-- "Tables are tested first: length, then records in order, in each record 2, 3, 4, 5, 6."
-- Assumes nothing.
use Rattle.std.specs.Prelude.{ℕ, ◌*◌, ◌%◌, List, Bool, not, ◌||◌, length, ltb, eqb, Result, Ok, Err}
use Rattle.laws.specs.Ladder.{climb}
use Rattle.laws.specs.Reader.{Reader, Read, whole, stopped, read_all}
use Rattle.table.specs.declared.record.Record.{Record}
use Rattle.table.specs.declared.rules.SoFar.{SoFar}
use Rattle.table.specs.declared.fault.Refusal.{Refusal}
use Rattle.table.specs.declared.reader.Shape.{Shape}
use Rattle.table.specs.Faults.{refusal_at}
use Rattle.table.specs.Bytes.{size, most_records, records, record_of}
use Rattle.table.specs.TableRules.{nothing_known, table_after}
use Rattle.table.specs.WellFormed.{table_rules}

-- 1: "table length 0, above 512, or not a multiple of 8"
abbrev pub bad_table_length : ℕ → Bool
bad_table_length n = (eqb n 0 || ltb (most_records * size) n) || not (eqb (n % size) 0)

-- "in each record 2, 3, 4, 5, 6": the number of the first that is broken, or 0
abbrev pub table_fault : SoFar → Record → ℕ
table_fault b x = climb table_rules (λ number index. number) (b, x) 0

-- how a table is read: rule 1 by its length, then the rules of a record, record by record
abbrev pub table_reader : List ℕ → Reader SoFar Record
table_reader s =
    record {
      bad_length = bad_table_length (length s);
      length_number = 1;
      count = records s;
      at = record_of s;
      start = nothing_known;
      fault = table_fault;
      after = table_after;
    }

-- the answer, for n records
abbrev pub reading_in : ℕ → Read SoFar → Result Shape Refusal
reading_in n (whole b) = Ok (record { records = n; tasks = b.tasks })
reading_in n (stopped number index) = Err (refusal_at number index)

unfoldable pub reading_of : List ℕ → Result Shape Refusal
reading_of s = reading_in (records s) (read_all (table_reader s))
