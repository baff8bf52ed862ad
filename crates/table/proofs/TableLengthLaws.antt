-- Rule 1: the length test is true exactly where the length is wrong; and what a right length gives.
-- Assumes nothing.
use Prim.Native.Nat.{ℕ, ◌*◌, ◌/◌, ◌%◌, ◌≤◌}
use mathlib.Core.Path.{◌≡◌}
use native.Mathlib.Omega.{arith}
use Rattle.laws.proofs.Tests.{Catches, catches_as, catches_eq, catches_lt, catches_ne, catches_or}
use Rattle.table.specs.Bytes.{size, most_records}
use Rattle.table.specs.TableReader.{bad_table_length}
use Rattle.table.specs.WellFormed.{TableLengthRight}

pub catches_table_length : (n : ℕ) → Catches (bad_table_length n) (TableLengthRight n)
catches_table_length n = catches_as there back
    (catches_or (catches_or (catches_eq n 0) (catches_lt (most_records * size) n)) (catches_ne (n % size) 0))
  where
    there : ((n ≡ 0 → ⊥) × (n ≤ most_records * size)) × (n % size ≡ 0) → TableLengthRight n
    there ((some, few), whole) = record { some = omega (arith, some); few = few; whole = whole }

    back : TableLengthRight n → ((n ≡ 0 → ⊥) × (n ≤ most_records * size)) × (n % size ≡ 0)
    back right = ((λ none. omega (arith, right.some), right.few), right.whole)

module _ {n : ℕ} (right : TableLengthRight n) where
  pub table_length_some : 1 ≤ n / size
  table_length_some = omega (arith, right.some, right.whole)

  pub table_length_few : n / size ≤ most_records
  table_length_few = omega (arith, right.few)
