-- Why *passed* speaks of legal lists only: (1,1,1) fits, but the machine cannot finish two requests of it at one tick,
-- the second of which comes a tick before its time. This is what the edit one_tick_early stands for.
-- Assumes nothing.
use mathlib.Core.Path.{◌≡◌, refl}
use native.Mathlib.Omega.{arith}
use lib.Dec.{lit<}
use Rattle.laws.specs.Sums.{sum}
use Rattle.model.specs.Request.{Next, Legal}
use Rattle.model.specs.Jobs.{Jobs, jobs_of}
use Rattle.model.specs.Machine.{sooner, pick, left_at}
use Rattle.table.specs.Bytes.{record_of}
use Rattle.table.specs.TableOf.{records_before, records_of, task_of, table_of}
use Rattle.promise.specs.Promises.{FinishesEach}
use Rattle.promise.specs.ExampleCases.{one, both}

pub not_legal : Legal (table_of one) both → ⊥
unfolding record_of records_before records_of task_of sum
not_legal legal = omega (arith, (legal.follows 0 1 (lit< tt) next).not_soon)
  where
    next : Next both 0 1
    next = record { earlier = lit< tt; same = refl; between = λ m after before same. omega arith }

abbrev jobs : Jobs
jobs = jobs_of (table_of one) both

-- both are due by 1, and of the second all is left then
pub second_left : left_at jobs (sooner jobs) 1 1 ≡ 1
unfolding record_of records_before records_of task_of sum left_at pick sooner
second_left = refl

pub not_finished : FinishesEach (table_of one) both → ⊥
unfolding record_of records_before records_of task_of sum
not_finished finishes = omega (arith, finishes 1 (lit< tt), second_left)
