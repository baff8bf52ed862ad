-- A table of rows, each on bytes of its own, shown right by one computed test of the whole: that the bytes are bytes,
-- and what is to be seen of the row.
-- Assumes nothing.
use mathlib.Core.Bool.{Bool, ◌&&◌}
use mathlib.Core.List.{List, [], ◌∷◌}
use Prim.Native.Nat.{ℕ, zero, suc, ◌<◌}
use native.Mathlib.Omega.{arith}
use lib.Dec.{T, ltb, ltb→lt}
use lib.ListN.{length, get_or}
use Rattle.laws.proofs.Every.{both_left, both_right, every, every_at}
use Rattle.table.specs.Bytes.{Bytes}

unfoldable pub is_byte : ℕ → Bool
is_byte x = ltb x 256

bytes_are : (s : List ℕ) → T (every is_byte s) → (i : ℕ) → get_or s i 0 < 256
unfolding every is_byte
bytes_are [] h i = omega arith
bytes_are (x ∷ s) h zero = ltb→lt x 256 (both_left (is_byte x) (every is_byte s) h)
bytes_are (x ∷ s) h (suc i) = bytes_are s (both_right (is_byte x) (every is_byte s) h) i

pub are_bytes : (s : List ℕ) → T (every is_byte s) → Bytes s
are_bytes s all i = record { fits = bytes_are s all i }

module _ {Row : Type 0} (bytes_of : Row → List ℕ) (test : Row → Bool) where
  unfoldable pub right : Row → Bool
  right row = every is_byte (bytes_of row) && test row

  module _ (Right : Row → Type 0) (shows : (row : Row) → Bytes (bytes_of row) → T (test row) → Right row) where
    pub row_right : (row : Row) → T (right row) → Right row
    unfolding right
    row_right row computed =
        let all = every is_byte (bytes_of row) in
        shows row (are_bytes (bytes_of row) (both_left all (test row) computed)) (both_right all (test row) computed)

    pub rows_right : (rows : List Row) → T (every right rows) → (i : ℕ) → i < length rows → (other : Row)
        → Right (get_or rows i other)
    rows_right rows computed i below other =
        row_right (get_or rows i other) (every_at right rows other computed i below)
