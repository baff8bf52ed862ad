-- `ask_overload` meets its contract: what the writer answers and leaves of the list that was found.
-- Assumes nothing.
use Rattle.std.proofs.Common.{rules}
use Rattle.place.specs.Place.{fitted}
use Rattle.desk.proofs.writer.ask_overload.Goals as goal

pub returns : goal.returns
unfolding fitted
returns c = search rules
