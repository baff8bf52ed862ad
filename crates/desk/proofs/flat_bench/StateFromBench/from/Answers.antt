-- The bench's state is laid flat, field by field.
-- Assumes nothing.
use Rattle.std.proofs.Common.{rules}
use Rattle.desk.specs.FlatBench.{flat_bench}
use Rattle.desk.proofs.flat_bench.StateFromBench.from.Goals as goal

pub returns : goal.returns
unfolding flat_bench
returns c = search rules
