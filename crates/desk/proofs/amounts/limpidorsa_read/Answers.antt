-- `limpidorsa_read` meets its contract: what is read, laid flat.
-- Assumes nothing.
use mathlib.Core.Path.{ap, ◌∙◌}
use Rattle.desk.specs.Laid.{laid_shape}
use Rattle.desk.proofs.AskLaws.{read_said}
use Rattle.desk.proofs.LaidLaws.{shape_laid}
use Rattle.desk.proofs.amounts.limpidorsa_read.Goals as goal

pub returns : goal.returns
returns c = c.from.ensures ∙ ap laid_shape (c.read_table.ensures ∙ read_said _) ∙ shape_laid _
