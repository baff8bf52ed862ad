-- `limpidorsa_replay` meets its contract: what is asked, laid flat.
-- Assumes nothing.
use mathlib.Core.Path.{ap, ◌∙◌}
use Rattle.desk.specs.Laid.{laid_ending}
use Rattle.desk.specs.ListQuestions.{replay_asked}
use Rattle.desk.proofs.LaidLaws.{ending_laid}
use Rattle.desk.proofs.lists.limpidorsa_replay.Goals as goal

pub returns : goal.returns
unfolding replay_asked
returns c = c.from.ensures ∙ ap laid_ending c.ask_replay.ensures ∙ ending_laid _
