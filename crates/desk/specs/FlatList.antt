-- The answers about lists laid flat, one case for each: the overload list, whether a list is legal, its replay.
-- Assumes nothing.
use Rattle.std.specs.Prelude.{true, false, ◌≡◌, List, ℕ, length}
use Rattle.model.specs.Replay.{Replayed, missed, all_met}
use Rattle.model.specs.Answer.{Answer, answered, refused}
use Rattle.place.specs.Place.{buffer_after}
use Rattle.desk.specs.declared.answers.Written.{Written}
use Rattle.desk.specs.declared.answers.Listed.{Listed}
use Rattle.desk.specs.declared.answers.Ending.{Ending}
use Rattle.desk.specs.Flat.{none, refusal}

unfoldable pub flat_written : Answer ℕ → Written
flat_written (answered n) = record { refusal = none; bytes = n }
flat_written (refused number index) = record { refusal = refusal number index; bytes = 0 }

-- what of an answer stands in its struct: of a list that is written its length, for its bytes are in the buffer
abbrev pub seen : {A B : Type 0} → (A → B) → Answer A → Answer B
seen look (answered x) = answered (look x)
seen look (refused number index) = refused number index

-- what the writer answers and leaves, where `said` is what it has to write
pub record FlatWrote (buffer : List ℕ) (place : ℕ) (said : Answer (List ℕ)) (r : Written) (after : List ℕ) :
    Type 0 where
  pub answer_is : r ≡ flat_written (seen length said)
  pub buffer_is : after ≡ buffer_after buffer place said

unfoldable pub flat_listed : Answer ℕ → Listed
flat_listed (answered n) = record { refusal = none; records = n }
flat_listed (refused number index) = record { refusal = refusal number index; records = 0 }

unfoldable pub flat_ending : Answer Replayed → Ending
flat_ending (answered (missed tick index)) = record { refusal = none; missed = true; tick = tick; index = index }
flat_ending (answered (all_met tick)) = record { refusal = none; missed = false; tick = tick; index = 0 }
flat_ending (refused number index) =
    record { refusal = refusal number index; missed = false; tick = 0; index = 0 }
