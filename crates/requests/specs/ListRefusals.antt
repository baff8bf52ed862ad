-- Which refusal the bytes of a list get, said of the bytes alone: document 01, "When the desk says no", rows 10 and 11.
-- Assumes nothing.
use Rattle.std.specs.Prelude.{ℕ, ◌⊎◌, List, length}
use Rattle.laws.specs.Ladder.{Breaks}
use Rattle.laws.specs.Reader.{BadLength, BadRecord}
use Rattle.model.specs.Task.{Table}
use Rattle.model.specs.Request.{last_arrival}
use Rattle.requests.specs.Entry.{entries}
use Rattle.requests.specs.Accepted.{ListLengthRight, list_rules, GoodRequest}

-- the first rule that record j breaks, "in each record 10 before 11"
abbrev pub RequestBreaks : ℕ → Table → List ℕ → ℕ → ℕ → Type 0
RequestBreaks last table s j number = Breaks (list_rules last table) (s, j) number 0

-- the refusal that the document's table gives these bytes: 10 for a wrong length, or that of the first bad record
abbrev pub ListRefused : Table → List ℕ → ℕ → ℕ → Type 0
ListRefused table s number index =
    BadLength (ListLengthRight (length s)) 10 number index
    ⊎ BadRecord (ListLengthRight (length s)) (entries s) (GoodRequest last_arrival table s)
    (RequestBreaks last_arrival table s) number index
