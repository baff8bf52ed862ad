-- `bench::load::empty` meets its contract: all slots are 0.
-- Assumes nothing.
use mathlib.Core.Path.{refl}
use Rattle.laws.specs.Sums.{tabulate}
use Rattle.bench.specs.Loaded.{slots_of, loaded}
use Rattle.bench.proofs.load.empty.Goals as goal

pub returns : goal.returns
unfolding loaded slots_of tabulate
returns c = refl
