-- `requests::entry::entry_at` meets its contract: it has no loop, and its result is the record field by field.
-- Assumes nothing.
use Rattle.std.proofs.Common.{rules}
use Rattle.requests.specs.Entry.{entry_of}
use Rattle.requests.proofs.entry.entry_at.Goals as goal

pub returns : goal.returns
unfolding entry_of
returns c = search rules
