-- A list as bytes: how many bytes they are, and that they read back as the list, with zero pads.
-- Assumes nothing.
use Prim.Native.Nat.{ℕ, zero, suc, ◌+◌, ◌*◌, ◌/◌, ◌%◌, ◌≤◌, ◌<◌}
use mathlib.Core.Path.{◌≡◌, refl, ap, ap₂, ◌∙◌}
use mathlib.Core.Logic.{inl, inr}
use mathlib.Core.List.{◌++◌}
use lib.ListN.{length, get_or, length-append, get_or-append}
use lib.Seq.{get_or-append-add}
use native.Mathlib.Omega.{arith}
use Rattle.laws.proofs.Cases.{lt_or_le}
use Rattle.model.specs.Request.{Requests, Same}
use Rattle.requests.specs.Entry.{entry_size, entry_of, request_in, list_of, widest, entry_bytes, bytes_to, bytes_of}

pub bytes_length : (list : Requests) (n : ℕ) → length (bytes_to list n) ≡ n * entry_size
unfolding bytes_to
bytes_length list zero = refl
bytes_length list (suc n) = simp (length-append, bytes_length list n) (omega arith)

-- lists that are the same have the same bytes
bytes_to_same : (list other : Requests) (n : ℕ) → ((i : ℕ) → i < n → list.request i ≡ other.request i) →
    bytes_to list n ≡ bytes_to other n
unfolding bytes_to
bytes_to_same list other zero same = refl
bytes_to_same list other (suc n) same =
    ap₂ (λ front x. front ++ entry_bytes x) (bytes_to_same list other n (λ i less. same i (omega arith)))
    (same n (omega arith))

pub bytes_same : {list other : Requests} → Same list other → bytes_of list ≡ bytes_of other
bytes_same {list} {other} same =
    ap (bytes_to list) same.count_is ∙ bytes_to_same list other other.count same.request_is

-- ---- one record

-- the byte at a place of record i
byte_at : (list : Requests) (n i : ℕ) → i < n → (at place : ℕ) → at ≡ i * entry_size + place → place < entry_size →
    get_or (bytes_to list n) at 0 ≡ get_or (entry_bytes (list.request i)) place 0
unfolding bytes_to
byte_at list zero i within at place is inside = absurd (omega arith)
byte_at list (suc n) i within at place is inside =
    let front = bytes_to list n in
    let long = bytes_length list n in
    elim (lt_or_le i n) [
      | inl less ↦
          get_or-append front (entry_bytes (list.request n)) 0 at (omega (arith, long))
          ∙ byte_at list n i less at place is inside
      | inr more ↦
          let behind : at ≡ length front + place = omega (arith, long) in
          let last : n ≡ i = omega arith in
          rw behind (get_or-append-add front (entry_bytes (list.request n)) place 0)
          ∙ ap (λ (k : ℕ). get_or (entry_bytes (list.request k)) place 0) last
    ]

-- "32 bits low byte first": the four bytes of a number that has no more make the number
four_bytes : (a : ℕ) → a ≤ widest →
    (a % 256 + 256 * (a / 256 % 256)) + 65536 * (a / 65536 % 256 + 256 * (a / 16777216)) ≡ a
four_bytes a short = omega arith

module _ (list : Requests) (short : (i : ℕ) → i < list.count → (list.request i).arrival ≤ widest) where
  entry_back : (i : ℕ) → i < list.count → let x = list.request i in
      entry_of (bytes_of list) i ≡ record { task = x.task; frame = x.frame; pad = 0; arrival = x.arrival }
  unfolding entry_of
  entry_back i within =
      let byte = byte_at list list.count i within in
      let a = i * entry_size in
      rw (
        byte a 0 (omega arith) (omega arith),
        byte (a + 1) 1 refl (omega arith),
        byte (a + 2) 2 refl (omega arith),
        byte (a + 2 + 1) 3 (omega arith) (omega arith),
        byte (a + 4) 4 refl (omega arith),
        byte (a + 4 + 1) 5 (omega arith) (omega arith),
        byte (a + 4 + 2) 6 (omega arith) (omega arith),
        byte (a + 4 + 2 + 1) 7 (omega arith) (omega arith),
        four_bytes (list.request i).arrival (short i within),
      )

  -- ---- the list

  pub bytes_read_back : Same (list_of (bytes_of list)) list
  bytes_read_back =
      record {
        count_is = omega (arith, bytes_length list list.count);
        request_is = λ i within. ap request_in (entry_back i within);
      }

  pub pads_zero : (i : ℕ) → i < list.count → (entry_of (bytes_of list) i).pad ≡ 0
  pads_zero i within = ap (λ x. x.pad) (entry_back i within)
