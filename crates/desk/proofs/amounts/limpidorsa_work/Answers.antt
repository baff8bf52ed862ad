-- `limpidorsa_work` meets its contract: what is asked, laid flat.
-- Assumes nothing.
use mathlib.Core.Path.{ap, ◌∙◌}
use Rattle.desk.specs.Laid.{laid_amount}
use Rattle.desk.specs.Questions.{work_asked}
use Rattle.desk.proofs.LaidLaws.{amount_laid}
use Rattle.desk.proofs.amounts.limpidorsa_work.Goals as goal

pub returns : goal.returns
unfolding work_asked
returns c = c.from.ensures ∙ ap laid_amount c.ask_sum.ensures ∙ amount_laid _
