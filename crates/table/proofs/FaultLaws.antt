-- A refusal's number is never 0.
-- Assumes nothing.
use Prim.Native.Nat.{◌≤◌}
use native.Mathlib.Omega.{arith}
use Rattle.table.specs.Faults.{number_of}
use Rattle.table.specs.declared.fault.Fault.{Fault}
use Rattle.table.specs.declared.fault.Fault.TheVariants.{BadLength, OffRun, BadKind, TooMany, HasZero, Uneven, TooFar}
use Rattle.table.specs.declared.fault.Fault.TheVariants.{AboveP, NoSuchFrame, BadList, OutOfTurn, NoRoom, NotOverloaded}

pub number_some : (fault : Fault) → 1 ≤ number_of fault
number_some BadLength = omega arith
number_some OffRun = omega arith
number_some BadKind = omega arith
number_some TooMany = omega arith
number_some HasZero = omega arith
number_some Uneven = omega arith
number_some TooFar = omega arith
number_some AboveP = omega arith
number_some NoSuchFrame = omega arith
number_some BadList = omega arith
number_some OutOfTurn = omega arith
number_some NoRoom = omega arith
number_some NotOverloaded = omega arith
