-- A start fits a byte.
-- Assumes nothing.
use native.Mathlib.Omega.{arith}
use Rattle.std.proofs.Common.{rules}
use Rattle.sums.proofs.PeakReady.{task_start}
use Rattle.verdict.proofs.starts.start_in.Goals as goal

pub overflow_cast-result : goal.overflow_cast-result
overflow_cast-result c = omega (arith, task_start c.args.table.now c.args.k (search rules) c.peak_of.ensures)
