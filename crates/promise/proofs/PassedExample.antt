-- What *passed* promises is about something: A fits; one list of A for every length, with arrivals past every limit, is
-- legal; and the bench accepts the bytes of three requests. What the promise then says of them.
-- Assumes nothing.
use mathlib.Core.Path.{◌≡◌, refl, sym, ◌∙◌}
use mathlib.Core.Logic.{inl, inr}
use Prim.Native.Nat.{ℕ, suc, ◌≤◌}
use native.Mathlib.Nat.{le_refl}
use native.Mathlib.Omega.{arith}
use lib.Dec.{lit<}
use Rattle.laws.specs.Sums.{sum, tabulate}
use Rattle.laws.specs.Search.{least_from}
use Rattle.laws.specs.Reader.{read_on, read_all}
use Rattle.laws.proofs.Cases.{lt_or_le}
use Rattle.model.specs.Task.{Proper}
use Rattle.model.specs.Demand.{frame}
use Rattle.model.specs.Request.{Next, Legal, last_arrival}
use Rattle.model.specs.Machine.{sooner, pick}
use Rattle.model.specs.Replay.{all_met, last_tick}
use Rattle.model.specs.Answer.{answered}
use Rattle.model.proofs.CyclicLaws.{frame_lt, frame_next, offset_next, offset_late}
use Rattle.model.proofs.DemandLaws.{demand_moves}
use Rattle.table.specs.Bytes.{record_of}
use Rattle.table.specs.TableReader.{reading_of}
use Rattle.table.specs.TableOf.{records_before, records_of, task_of, table_of}
use Rattle.table.proofs.TaskLaws.{well_proper}
use Rattle.requests.specs.Entry.{entry_of}
use Rattle.requests.specs.ListReader.{check_of}
use Rattle.requests.specs.Accepted.{Accepted}
use Rattle.bench.specs.Rule.{first_late, first_left, next_in, tick_of}
use Rattle.bench.specs.Loaded.{slots_of, loaded}
use Rattle.bench.proofs.StoppingRun.{run_stops, replay_stops}
use Rattle.desk.specs.ListQuestions.{on_list, replays, replay_asked}
use Rattle.promise.specs.Tables.{A}
use Rattle.promise.specs.ExampleCases.{a_task, a_round, a_list}
use Rattle.promise.specs.Promises.{FinishesEach, Passed}
use Rattle.promise.proofs.NamedLaws.{a_bytes, cited}
use Rattle.promise.proofs.JudgedLaws.{judged_well}
use Rattle.promise.proofs.ListExact.{answered_good}
use Rattle.promise.proofs.QuickLaws.{stopping, replay_stopping}
use Rattle.promise.proofs.PassedLaws.{passed}

a_passed : Passed A
a_passed = passed A a_bytes cited.a_fits.0

-- ---- a list of any length: the frames of A's task from frame 0 on, each as early as it may come

a_proper : Proper a_task
unfolding A record_of
a_proper = (well_proper a_bytes (judged_well A cited.a_fits.0)).proper 0 (lit< tt)

-- every request is of the one task, so after each comes the one with the next number
next_is : {n i j : ℕ} → Next (a_round n) i j → j ≡ suc i
next_is {n} {i} {j} next =
    elim (lt_or_le (suc i) j) [
      | inl more ↦ absurd (next.between (suc i) (le_refl (suc i)) more refl)
      | inr last ↦ omega (arith, next.earlier)
    ]

pub a_legal : (n : ℕ) → Legal (table_of A) (a_round n)
unfolding A record_of
a_legal n =
    record {
      known = λ i inside. record { task = lit< tt; frame = frame_lt a_task a_proper.some 0 i };
      follows = λ i j inside next. rw (next_is next)
          (record { frame_is = sym (frame_next a_task 0 i); not_soon = omega (arith, offset_next a_task 0 i) });
    }

-- no number bounds its arrivals
pub a_unbounded : (n : ℕ) → n ≤ ((a_round (suc n)).request n).arrival
a_unbounded n = offset_late (demand_moves a_proper) 0 n

-- so each of its requests is done by its deadline
pub a_finishes : (n : ℕ) → FinishesEach (table_of A) (a_round n)
a_finishes n = a_passed.finishes (a_round n) (a_legal n)

-- ---- bytes: the first three of these requests

-- they are a list of A, and all are met: the last unit is given in tick 9
a_stopping : on_list A a_list stopping ≡ answered (all_met 10)
unfolding A a_list reading_of read_all read_on record_of records_before records_of task_of check_of
    entry_of last_arrival last_tick frame sum tabulate least_from replay_stops run_stops loaded slots_of tick_of
    first_late first_left next_in pick sooner
a_stopping = refl

pub a_replayed : replay_asked A a_list ≡ answered (all_met 10)
a_replayed = sym (replay_stopping A a_list) ∙ a_stopping

pub a_accepted : Accepted (table_of A) a_list
unfolding replay_asked
a_accepted = (answered_good replays A a_list a_replayed).list_good
