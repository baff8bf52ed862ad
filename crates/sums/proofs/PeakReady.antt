-- What the sums know of each task of a table that was read.
-- Assumes nothing.
use mathlib.Core.Path.{◌≡◌, refl, sym, subst, ◌∙◌}
use Prim.Native.Nat.{ℕ, ◌<◌}
use native.Mathlib.Omega.{arith}
use Rattle.model.specs.Task.{Task}
use Rattle.model.specs.Demand.{most, lowest}
use Rattle.model.proofs.DemandLaws.{demand_most, work_most}
use Rattle.table.specs.Ready.{table_in}
use Rattle.table.specs.declared.task_table.TaskTable.{TaskTable}
use Rattle.table.proofs.ReadyLaws.{table_proper}
use Rattle.sums.specs.declared.asked.Sum.{Sum}
use Rattle.sums.specs.declared.asked.Sum.TheVariants.{Demand, Work}
use Rattle.sums.specs.declared.peak.Peak.{Peak}
use Rattle.sums.specs.Sized.{reach_by, peak_by, start_by, Greatest, Peaks}

-- the greatest sum by each condition is the document's demand, or its work
peak_by_is : (which : Sum) (task : Task) (t : ℕ) → most task (reach_by which task) t ≡ peak_by which task t
peak_by_is Demand task t = sym (demand_most task t)
peak_by_is Work task t = sym (work_most task t)

start_by_is : (which : Sum) (task : Task) (t : ℕ) → lowest task (reach_by which task) t ≡ start_by which task t
start_by_is Demand task t = refl
start_by_is Work task t = refl

greatest_peaks : {which : Sum} {task : Task} {t : ℕ} {r : Peak} → Greatest task which t r → Peaks task which t r
greatest_peaks {which} {task} {t} most_of =
    record {
      sum_is = most_of.sum_is ∙ peak_by_is which task t;
      start_is = most_of.start_is ∙ start_by_is which task t;
      inside = most_of.inside;
      at_most = most_of.at_most;
    }

-- the task whose records are counted is the one that stands there
pub task_peaks : {task here : Task} {which : Sum} {t : ℕ} {r : Peak} → here ≡ task → Greatest here which t r
    → Peaks task which t r
task_peaks {task} {here} {which} {t} {r} is most_of =
    greatest_peaks (subst (λ (u : Task). Greatest u which t r) is most_of)

-- a start fits a byte
pub task_start : (table : TaskTable) (k : ℕ) → k < (table_in table).tasks → {which : Sum} {t : ℕ} {r : Peak}
    → Peaks ((table_in table).task k) which t r → r.start < 16
task_start table k there peak = omega (arith, peak.inside, ((table_proper table).proper k there).few)
