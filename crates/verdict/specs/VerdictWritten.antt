-- The document's verdict as the code's value: one case for each.
-- Assumes nothing.
use Rattle.model.specs.Verdict as Rule
use Rattle.verdict.specs.declared.judge.Verdict.{Verdict}
use Rattle.verdict.specs.declared.judge.Verdict.TheVariants.{Overloaded, Fits, Undecided}

abbrev pub verdict_of : Rule.Verdict → Verdict
verdict_of (Rule.overloaded t margin starts) = Overloaded t margin starts
verdict_of (Rule.fits window margin t) = Fits window margin t
verdict_of Rule.undecided = Undecided
