-- `limpidorsa_verdict` meets its contract: what is asked, laid flat.
-- Assumes nothing.
use mathlib.Core.Path.{ap, ◌∙◌}
use Rattle.desk.specs.Laid.{laid_verdict}
use Rattle.desk.specs.Questions.{verdict_asked}
use Rattle.desk.proofs.LaidLaws.{verdict_laid}
use Rattle.desk.proofs.verdicts.limpidorsa_verdict.Goals as goal

pub returns : goal.returns
unfolding verdict_asked
returns c = c.from.ensures ∙ ap laid_verdict c.ask_verdict.ensures ∙ verdict_laid _
