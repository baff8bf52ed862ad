-- `table::record::record_at` meets its contract: it has no loop, and its result is the record field by field.
-- Assumes nothing.
use Rattle.table.specs.Bytes.{record_of}
use Rattle.table.proofs.record.record_at.Goals as goal

pub returns : goal.returns
unfolding record_of
returns c = cc
