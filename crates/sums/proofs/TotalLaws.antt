-- The sums over all tasks: which they are, and that the tasks' peaks, added in order, give them.
-- Assumes nothing.
use mathlib.Core.Path.{◌≡◌}
use Prim.Native.Nat.{ℕ, ◌≤◌}
use native.Mathlib.Omega.{arith}
use Rattle.laws.proofs.Adding.{Adding, adding_room, adding_end}
use Rattle.model.specs.Task.{Table}
use Rattle.model.specs.Demand.{all_demands, all_work}
use Rattle.sums.specs.declared.asked.Sum.{Sum}
use Rattle.sums.specs.declared.asked.Sum.TheVariants.{Demand, Work}
use Rattle.sums.specs.Sized.{bound, peak_by, total_by, Total}

-- the two conditions are the document's two sums
pub demands_are : {table : Table} {t r : ℕ} → Total table Demand t r → r ≡ all_demands table t
unfolding total_by all_demands
demands_are total = total.is

pub work_is : {table : Table} {w r : ℕ} → Total table Work w r → r ≡ all_work table w
unfolding total_by all_work
work_is total = total.is

abbrev pub peaks : Table → Sum → ℕ → ℕ → ℕ
peaks table which t k = peak_by which (table.task k) t

-- they are added in order, and there are sixteen at the most
pub total_added : {table : Table} {which : Sum} {t so_far k : ℕ}
    → Adding (peaks table which t) (bound t) table.tasks so_far k → table.tasks ≤ 16 → table.tasks ≤ k
    → Total table which t so_far
unfolding total_by
total_added adding few done =
    record { is = adding_end adding done; at_most = adding_room adding 16 (omega (arith, adding.within)) }
