-- `limpidorsa_margin` meets its contract: what is asked, laid flat.
-- Assumes nothing.
use mathlib.Core.Path.{ap, ◌∙◌}
use Rattle.desk.specs.Laid.{laid_margin}
use Rattle.desk.specs.Questions.{margin_asked}
use Rattle.desk.proofs.LaidLaws.{margin_laid}
use Rattle.desk.proofs.amounts.limpidorsa_margin.Goals as goal

pub returns : goal.returns
unfolding margin_asked
returns c = c.from.ensures ∙ ap laid_margin c.ask_margin.ensures ∙ margin_laid _
