-- A kind's byte: document 01, "A table, record by record": "Kind 1 is sporadic .. Kind 2 is multiframe .. Kind 3 is
-- generalized".
-- Assumes nothing.
use Rattle.std.specs.Prelude.{◌≡◌, ℕ, ◌||◌, true, ltb, Result, Ok, Err}
use Rattle.table.specs.declared.fault.Fault.{Fault}
use Rattle.table.specs.declared.fault.Fault.TheVariants.{BadKind}
use Rattle.table.specs.declared.kind.Kind.{Kind}
use Rattle.table.specs.declared.kind.Kind.TheVariants.{Sporadic, Multiframe, Generalized}

abbrev pub byte_of : Kind → ℕ
byte_of Sporadic = 1
byte_of Multiframe = 2
byte_of Generalized = 3

-- what a byte is as a kind: the kind that has it; or 3, "kind not 1 to 3"
abbrev pub KindOf : ℕ → Result Kind Fault → Type 0
KindOf byte (Ok kind) = byte ≡ byte_of kind
KindOf byte (Err fault) = (fault ≡ BadKind) × ((ltb byte 1 || ltb 3 byte) ≡ true)
