-- `limpidorsa_list` meets its contract: what is asked, laid flat.
-- Assumes nothing.
use mathlib.Core.Path.{ap, ◌∙◌}
use Rattle.desk.specs.Laid.{laid_listed}
use Rattle.desk.specs.ListQuestions.{list_asked}
use Rattle.desk.proofs.LaidLaws.{listed_laid}
use Rattle.desk.proofs.lists.limpidorsa_list.Goals as goal

pub returns : goal.returns
unfolding list_asked
returns c = c.from.ensures ∙ ap laid_listed c.ask_list.ensures ∙ listed_laid _
