-- The refusals by name and by number: document 01, "When the desk says no".
-- Assumes nothing.
use Rattle.std.specs.Prelude.{ℕ, Option, Some, None}
use Rattle.table.specs.declared.fault.Fault.{Fault}
use Rattle.table.specs.declared.fault.Fault.TheVariants.{BadLength, OffRun, BadKind, TooMany, HasZero, Uneven, TooFar}
use Rattle.table.specs.declared.fault.Fault.TheVariants.{AboveP, NoSuchFrame, BadList, OutOfTurn, NoRoom, NotOverloaded}
use Rattle.table.specs.declared.fault.Refusal.{Refusal}

-- its number in the document's table
abbrev pub number_of : Fault → ℕ
number_of BadLength = 1
number_of OffRun = 2
number_of BadKind = 3
number_of TooMany = 4
number_of HasZero = 5
number_of Uneven = 6
number_of TooFar = 7
number_of AboveP = 8
number_of NoSuchFrame = 9
number_of BadList = 10
number_of OutOfTurn = 11
number_of NoRoom = 12
number_of NotOverloaded = 13

-- what a test that may find a fault says: its number, or 0
abbrev pub faulted : Option Fault → ℕ
faulted (Some fault) = number_of fault
faulted None = 0

-- "Every refusal is a refusal number with the record index"
abbrev pub refusal_at : ℕ → ℕ → Refusal
refusal_at number index = record { number = number; index = index }
