-- The verdict and the response laid flat, one case for each.
-- Assumes nothing.
use Rattle.std.specs.Prelude.{true, false, pos, replicate}
use Rattle.model.specs.Verdict as Rule
use Rattle.model.specs.Response as Recurrence
use Rattle.model.specs.Answer.{Answer, answered, refused}
use Rattle.desk.specs.declared.answers.Verdict.{Verdict}
use Rattle.desk.specs.declared.answers.Response.{Response}
use Rattle.desk.specs.Flat.{none, refusal}

-- 1 overloaded, 2 fits, 3 undecided
unfoldable pub flat_verdict : Answer Rule.Verdict → Verdict
flat_verdict (answered (Rule.overloaded t m starts)) =
    record { refusal = none; verdict = 1; t = t; margin = m; window = 0; starts = starts }
flat_verdict (answered (Rule.fits w m t)) =
    record { refusal = none; verdict = 2; t = t; margin = m; window = w; starts = replicate 16 0 }
flat_verdict (answered Rule.undecided) =
    record { refusal = none; verdict = 3; t = 0; margin = pos 0; window = 0; starts = replicate 16 0 }
flat_verdict (refused number index) =
    record { refusal = refusal number index; verdict = 0; t = 0; margin = pos 0; window = 0; starts = replicate 16 0 }

unfoldable pub flat_response : Answer Recurrence.Response → Response
flat_response (answered (Recurrence.on_time value rounds)) =
    record { refusal = none; late = false; value = value; round = rounds }
flat_response (answered (Recurrence.late value round)) =
    record { refusal = none; late = true; value = value; round = round }
flat_response (refused number index) =
    record { refusal = refusal number index; late = false; value = 0; round = 0 }
