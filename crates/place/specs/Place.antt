-- Bytes written into a lent buffer from a place that the caller names: document 01, "When the desk says no", 12.
-- Assumes nothing.
use Rattle.std.specs.Prelude.{Bool, cond, ◌||◌, ◌≡◌, List, ◌++◌, ℕ, ◌+◌, ◌-◌, ltb, length, take, drop, Result, Ok, Err}
use Rattle.model.specs.Answer.{Answer, answered, refused}
use Rattle.table.specs.Faults.{refusal_at}
use Rattle.table.specs.declared.fault.Refusal.{Refusal}

-- 12: "the place lies past the buffer's end, or the list has more bytes than the buffer has from there", of a buffer
-- of `long` bytes and a list of n
abbrev pub no_room : ℕ → ℕ → ℕ → Bool
no_room long place n = ltb long place || ltb (long - place) n

-- the list, where there is room for it
unfoldable pub fitted : List ℕ → ℕ → List ℕ → Answer (List ℕ)
fitted buffer place list = cond (no_room (length buffer) place (length list)) (refused 12 0) (answered list)

-- the answer: how many bytes were written, or the refusal
abbrev pub written_of : Answer (List ℕ) → Result ℕ Refusal
written_of (answered list) = Ok (length list)
written_of (refused number index) = Err (refusal_at number index)

-- the buffer afterwards. "The overload list is written from a place the caller names; bytes before it and after the
-- list stay", and of a refusal: "no lent byte changes".
abbrev pub buffer_after : List ℕ → ℕ → Answer (List ℕ) → List ℕ
buffer_after buffer place (answered list) = take place buffer ++ (list ++ drop (place + length list) buffer)
buffer_after buffer place (refused number index) = buffer

-- what a writer answers and leaves, where `said` is what it has to write
pub record Wrote (buffer : List ℕ) (place : ℕ) (said : Answer (List ℕ)) (r : Result ℕ Refusal) (after : List ℕ)
    : Type 0 where
  pub answer_is : r ≡ written_of said
  pub buffer_is : after ≡ buffer_after buffer place said
