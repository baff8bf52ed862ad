-- `limpidorsa_overload_size` meets its contract: what is asked, laid flat.
-- Assumes nothing.
use mathlib.Core.Path.{ap, ◌∙◌}
use Rattle.desk.specs.Laid.{laid_written}
use Rattle.desk.specs.Questions.{size_asked}
use Rattle.desk.proofs.LaidLaws.{written_laid}
use Rattle.desk.proofs.writer.limpidorsa_overload_size.Goals as goal

pub returns : goal.returns
unfolding size_asked
returns c = c.from.ensures ∙ ap laid_written c.ask_size.ensures ∙ written_laid _
