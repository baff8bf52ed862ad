-- Rule 10, the length: the test is true exactly where the length is wrong; and what a right length gives.
-- Assumes nothing.
use Prim.Native.Nat.{ℕ, ◌*◌, ◌/◌, ◌%◌, ◌≤◌}
use mathlib.Core.Path.{◌≡◌}
use native.Mathlib.Omega.{arith}
use Rattle.laws.proofs.Tests.{Catches, catches_as, catches_lt, catches_ne, catches_or}
use Rattle.requests.specs.Entry.{entry_size, most_requests}
use Rattle.requests.specs.Accepted.{ListLengthRight}
use Rattle.requests.specs.ListReader.{bad_list_length}

pub catches_list_length : (n : ℕ) → Catches (bad_list_length n) (ListLengthRight n)
catches_list_length n =
    catches_as there back (catches_or (catches_lt (most_requests * entry_size) n) (catches_ne (n % entry_size) 0))
  where
    there : (n ≤ most_requests * entry_size) × (n % entry_size ≡ 0) → ListLengthRight n
    there (few, whole) = record { few = few; whole = whole }

    back : ListLengthRight n → (n ≤ most_requests * entry_size) × (n % entry_size ≡ 0)
    back right = (right.few, right.whole)

pub list_length_few : {n : ℕ} → ListLengthRight n → n / entry_size ≤ most_requests
list_length_few right = omega (arith, right.few)
