-- What is said, laid flat, is the document's answer laid flat.
-- Assumes nothing.
use mathlib.Core.List.{List}
use mathlib.Core.Path.{◌≡◌, refl}
use Prim.Native.Nat.{ℕ}
use lib.IntN.{ℤ}
use lib.ListN.{length}
use Rattle.laws.specs.Search.{Found, at, nowhere, option_of}
use Rattle.model.specs.Verdict as Rule
use Rattle.model.specs.Response as Recurrence
use Rattle.model.specs.Replay as Replay
use Rattle.model.specs.Answer.{Answer, answered, refused}
use Rattle.table.specs.declared.reader.Shape.{Shape}
use Rattle.verdict.specs.VerdictWritten.{verdict_of}
use Rattle.response.specs.ResponseWritten.{response_of}
use Rattle.place.specs.Place.{written_of}
use Rattle.bench.specs.ReplayWritten.{replayed_of}
use Rattle.desk.specs.ListQuestions.{Loading}
use Rattle.desk.specs.Flat.{flat_shape, flat_amount, flat_margin, flat_window}
use Rattle.desk.specs.FlatVerdict.{flat_verdict, flat_response}
use Rattle.desk.specs.FlatList.{flat_written, flat_listed, flat_ending, seen}
use Rattle.desk.specs.FlatBench.{flat_loaded}
use Rattle.desk.specs.Laid.{laid_shape, laid_amount, laid_margin, laid_window, laid_verdict, laid_response}
use Rattle.desk.specs.Laid.{laid_written, laid_listed, laid_ending, laid_loaded}
use Rattle.desk.specs.Said.{result_of, result_by, loading_pair}

pub shape_laid : (a : Answer Shape) → laid_shape (result_of a) ≡ flat_shape a
unfolding flat_shape
shape_laid (answered x) = refl
shape_laid (refused number index) = refl

pub amount_laid : (a : Answer ℕ) → laid_amount (result_of a) ≡ flat_amount a
unfolding flat_amount
amount_laid (answered n) = refl
amount_laid (refused number index) = refl

pub margin_laid : (a : Answer ℤ) → laid_margin (result_of a) ≡ flat_margin a
unfolding flat_margin
margin_laid (answered m) = refl
margin_laid (refused number index) = refl

pub window_laid : (a : Answer Found) → laid_window (result_by option_of a) ≡ flat_window a
unfolding flat_window
window_laid (answered (at w)) = refl
window_laid (answered nowhere) = refl
window_laid (refused number index) = refl

pub verdict_laid : (a : Answer Rule.Verdict) → laid_verdict (result_by verdict_of a) ≡ flat_verdict a
unfolding flat_verdict
verdict_laid (answered (Rule.overloaded t m starts)) = refl
verdict_laid (answered (Rule.fits window m t)) = refl
verdict_laid (answered Rule.undecided) = refl
verdict_laid (refused number index) = refl

pub response_laid : (a : Answer Recurrence.Response) → laid_response (result_by response_of a) ≡ flat_response a
unfolding flat_response
response_laid (answered (Recurrence.on_time value rounds)) = refl
response_laid (answered (Recurrence.late value round)) = refl
response_laid (refused number index) = refl

pub written_laid : (a : Answer ℕ) → laid_written (result_of a) ≡ flat_written a
unfolding flat_written
written_laid (answered n) = refl
written_laid (refused number index) = refl

pub listed_laid : (a : Answer ℕ) → laid_listed (result_of a) ≡ flat_listed a
unfolding flat_listed
listed_laid (answered n) = refl
listed_laid (refused number index) = refl

pub ending_laid : (a : Answer Replay.Replayed) → laid_ending (result_by replayed_of a) ≡ flat_ending a
unfolding flat_ending
ending_laid (answered (Replay.missed tick index)) = refl
ending_laid (answered (Replay.all_met tick)) = refl
ending_laid (refused number index) = refl

pub loaded_laid : (a : Answer Loading) → laid_loaded (result_by loading_pair a) ≡ flat_loaded a
unfolding flat_loaded
loaded_laid (answered x) = refl
loaded_laid (refused number index) = refl

-- of a list that is written its length is answered, for its bytes are in the buffer
pub wrote_laid : (a : Answer (List ℕ)) → laid_written (written_of a) ≡ flat_written (seen length a)
unfolding flat_written
wrote_laid (answered list) = refl
wrote_laid (refused number index) = refl
