-- `limpidorsa_overload` meets its contract: what the writer answers, laid flat, and what it leaves.
-- Assumes nothing.
use mathlib.Core.Path.{ap, ◌∙◌}
use Rattle.desk.specs.Laid.{laid_written}
use Rattle.desk.specs.Questions.{overload_asked}
use Rattle.desk.proofs.LaidLaws.{wrote_laid}
use Rattle.desk.proofs.writer.limpidorsa_overload.Goals as goal

pub returns : goal.returns
unfolding overload_asked
returns c =
    let wrote = c.ask_overload.ensures in
    record {
      answer_is = c.from.ensures ∙ ap laid_written wrote.answer_is ∙ wrote_laid _;
      buffer_is = wrote.buffer_is;
    }
