-- The document's answers of a replay as the code's values: one case for each.
-- Assumes nothing.
use Rattle.model.specs.Replay as Rule
use Rattle.bench.specs.declared.replay.Replayed.{Replayed}
use Rattle.bench.specs.declared.replay.Replayed.TheVariants.{Missed, AllMet}

abbrev pub replayed_of : Rule.Replayed → Replayed
replayed_of (Rule.missed tick index) = Missed tick index
replayed_of (Rule.all_met tick) = AllMet tick
