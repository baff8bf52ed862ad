-- The test whether a window closes, as the code asks it.
-- Assumes nothing.
use mathlib.Core.Path.{◌≡◌, refl}
use Prim.Native.Nat.{ℕ}
use lib.Dec.{leb}
use Rattle.model.specs.Task.{Table}
use Rattle.model.specs.Verdict.{closes}
use Rattle.sums.specs.declared.asked.Sum.TheVariants.{Work}
use Rattle.sums.specs.Sized.{Total}
use Rattle.sums.proofs.TotalLaws.{work_is}

pub close_test : {table : Table} {w r : ℕ} → Total table Work w r → leb r w ≡ closes table w
unfolding closes
close_test total = rw (work_is total) refl
