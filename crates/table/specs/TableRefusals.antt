-- Which refusal bytes get, said of the bytes alone: document 01, "When the desk says no".
-- Assumes nothing.
use Rattle.std.specs.Prelude.{ℕ, ◌⊎◌, List, length}
use Rattle.laws.specs.Ladder.{Breaks}
use Rattle.laws.specs.Reader.{BadLength, BadRecord}
use Rattle.table.specs.Bytes.{records}
use Rattle.table.specs.WellFormed.{TableLengthRight, table_rules, GoodRecord}

-- of a record: the first rule that record j breaks, "in each record 2, 3, 4, 5, 6"
abbrev pub RecordBreaks : List ℕ → ℕ → ℕ → Type 0
RecordBreaks s j number = Breaks table_rules (s, j) number 0

-- the refusal that the document's table gives these bytes: 1 for a wrong length, or that of the first bad record
abbrev pub TableRefused : List ℕ → ℕ → ℕ → Type 0
TableRefused s number index =
    BadLength (TableLengthRight (length s)) 1 number index
    ⊎ BadRecord (TableLengthRight (length s)) (records s) (GoodRecord s) (RecordBreaks s) number index
