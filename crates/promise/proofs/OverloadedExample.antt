-- What *overloaded* promises is about something: B is overloaded, and its list is document 01's sixteen bytes. Two
-- schedules of their two requests, and which of them each leaves unfinished; and the bench's miss.
-- Assumes nothing.
use mathlib.Core.Path.{◌≡◌, refl, sym, subst}
use Prim.Native.Nat.{ℕ, zero, suc, ◌<◌}
use native.Mathlib.Omega.{arith}
use lib.ListN.{replicate}
use Rattle.laws.specs.Sums.{sum}
use Rattle.model.specs.Machine.{sooner, pick, left_at}
use Rattle.model.specs.Replay.{missed, Missed}
use Rattle.model.specs.Schedule.{units}
use Rattle.table.specs.Bytes.{record_of}
use Rattle.table.specs.TableOf.{records_before, records_of, task_of, table_of}
use Rattle.requests.specs.Entry.{entry_of, list_of}
use Rattle.desk.specs.Questions.{overload_asked}
use Rattle.desk.specs.Flat.{none}
use Rattle.desk.specs.FlatList.{flat_written, FlatWrote}
use Rattle.promise.specs.Tables.{A, B, b_list}
use Rattle.promise.specs.Promises.{NoSchedule, OverloadShown}
use Rattle.promise.specs.ExampleCases.{b_jobs, its_own, other_first, LeavesJob, BWritten}
use Rattle.promise.proofs.NamedLaws.{b_bytes, cited}
use Rattle.promise.proofs.ListExact.{replay_means}
use Rattle.promise.proofs.OverloadedLaws.{overloaded_shown}

b_promised : OverloadShown B 2
b_promised = overloaded_shown B b_bytes cited.b_overloaded.0

-- read back from a buffer of sixteen bytes
b_writes_it : b_promised.list ≡ b_list
unfolding b_list flat_written
b_writes_it =
    let row = cited.b_list_whole in
    let wrote : FlatWrote (replicate 16 255) 0 (overload_asked B (replicate 16 255) 0)
    (record { refusal = none; bytes = 16 }) b_list =
    record { answer_is = rw row.0 refl; buffer_is = sym row.1 } in
    sym (b_promised.read_back (replicate 16 255) 0 _ b_list wrote refl)

pub b_is_written : BWritten
b_is_written = record { shown = b_promised; is = b_writes_it }

-- ---- no schedule finishes both requests

b_no_schedule : NoSchedule (table_of B) (list_of b_list)
b_no_schedule = subst (λ list. NoSchedule (table_of B) (list_of list)) b_writes_it b_promised.no_schedule

own_is : (b_no_schedule its_own).job ≡ 1
unfolding A B b_list record_of records_before records_of task_of entry_of sum units left_at pick sooner
own_is = let left = b_no_schedule its_own in which left.job left.inside left.short
  where
    which : (k : ℕ) → k < b_jobs.count → units its_own k (b_jobs.release k) (b_jobs.due k) < b_jobs.amount k → k ≡ 1
    which zero inside short = absurd (omega arith)
    which (suc zero) inside short = refl
    which (suc (suc k)) inside short = absurd (omega arith)

other_is : (b_no_schedule other_first).job ≡ 0
unfolding A B b_list record_of records_before records_of task_of entry_of sum units
other_is =
    let left = b_no_schedule other_first in which left.job left.inside left.short
  where
    which : (k : ℕ) → k < b_jobs.count → units other_first k (b_jobs.release k) (b_jobs.due k) < b_jobs.amount k
        → k ≡ 0
    which zero inside short = refl
    which (suc zero) inside short = absurd (omega arith)
    which (suc (suc k)) inside short = absurd (omega arith)

pub own_leaves : LeavesJob its_own 1
own_leaves = record { unfinished = b_no_schedule its_own; is = own_is }

pub other_leaves : LeavesJob other_first 0
other_leaves = record { unfinished = b_no_schedule other_first; is = other_is }

-- ---- the machine on the two requests has work left of record 1 at tick 2, and none is late before

pub b_misses : Missed b_jobs (sooner b_jobs) 2 1
b_misses = replay_means B b_bytes b_list (missed 2 1) cited.b_missed.0
