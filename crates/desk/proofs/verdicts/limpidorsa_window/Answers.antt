-- `limpidorsa_window` meets its contract: what is asked, laid flat.
-- Assumes nothing.
use mathlib.Core.Path.{ap, ◌∙◌}
use Rattle.desk.specs.Laid.{laid_window}
use Rattle.desk.specs.Questions.{window_asked}
use Rattle.desk.proofs.LaidLaws.{window_laid}
use Rattle.desk.proofs.verdicts.limpidorsa_window.Goals as goal

pub returns : goal.returns
unfolding window_asked
returns c = c.from.ensures ∙ ap laid_window c.ask_window.ensures ∙ window_laid _
