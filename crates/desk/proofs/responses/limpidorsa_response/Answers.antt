-- `limpidorsa_response` meets its contract: what is asked, laid flat.
-- Assumes nothing.
use mathlib.Core.Path.{ap, ◌∙◌}
use Rattle.desk.specs.Laid.{laid_response}
use Rattle.desk.specs.Questions.{response_asked}
use Rattle.desk.proofs.LaidLaws.{response_laid}
use Rattle.desk.proofs.responses.limpidorsa_response.Goals as goal

pub returns : goal.returns
unfolding response_asked
returns c = c.from.ensures ∙ ap laid_response c.ask_response.ensures ∙ response_laid _
