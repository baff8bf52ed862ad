-- Each named number is what the rules give: one computed test of the whole table, and one law that turns it into that.
-- The verdict is computed by the walk that stops at the closing window, a replay by the run that stops with the bench,
-- and both are carried over by their laws.
-- Assumes nothing.
use mathlib.Core.Bool.{Bool, ◌&&◌}
use mathlib.Core.Path.{◌≡◌, refl, sym, ◌∙◌, ap}
use mathlib.Core.List.{[], ◌∷◌}
use lib.Dec.{T}
use Rattle.laws.specs.Sums.{sum, greatest, tabulate}
use Rattle.laws.specs.Search.{least_from, first_least, up_to_last}
use Rattle.laws.specs.Reader.{read_on, read_all}
use Rattle.laws.proofs.Every.{both_left, both_right, every}
use Rattle.model.specs.Demand.{frame, offset, counted, lowest, demand, work, all_demands, all_work}
use Rattle.model.specs.Verdict.{horizon, closes, overloads, starts, overloaded_at, fits_at}
use Rattle.model.specs.Weave.{foremost, taken_by, next_at, weave}
use Rattle.model.specs.Overload.{requests_by, overload_list}
use Rattle.model.specs.Response.{value, settles, settled_at, response_by, peak_frame, share_of, share_over, response_over, response}
use Rattle.model.proofs.WalkLaws.{walk}
use Rattle.model.specs.Request.{last_arrival}
use Rattle.model.specs.Machine.{sooner, pick}
use Rattle.model.specs.Replay.{last_tick}
use Rattle.table.specs.Bytes.{Bytes, record_of}
use Rattle.table.specs.TableReader.{reading_of}
use Rattle.table.specs.TableOf.{records_before, records_of, task_of}
use Rattle.requests.specs.Entry.{entry_of, bytes_to}
use Rattle.requests.specs.ListReader.{check_of}
use Rattle.bench.specs.Rule.{first_late, first_left, next_in, tick_of}
use Rattle.bench.specs.Loaded.{slots_of, loaded}
use Rattle.bench.proofs.StoppingRun.{run_stops, replay_stops}
use Rattle.table.specs.Deadlines.{first_above}
use Rattle.desk.specs.Questions.{demand_asked, response_asked}
use Rattle.promise.specs.Tables.{A, B, b_list, F, k7_task, four, twenty}
use Rattle.promise.specs.Named.{Named, IsSaid, named, K2, K4, k4_list, k4_place_2, k4_place_5, K5, K6, k8_task_3}
use Rattle.promise.specs.NamedRight.{values, NamedRight}
use Rattle.promise.proofs.SameLaws.{same_int, same_list, same_list_is, same_verdict, same_replay, same_response, same_answer, same_answer_is}
use Rattle.promise.proofs.RowLaws.{is_byte, are_bytes, right, row_right, rows_right}
use Rattle.promise.proofs.QuickLaws.{by_verdict, room_or}
use Rattle.promise.proofs.EachQuestion.{quick}

by_walk : Named → Bool
by_walk n =
    let its = quick n.bytes n.question in
    same_answer its.test.same its.said n.says && same_list (its.leaves its.said) n.leaves

walk_is_said : (n : Named) → Bytes n.bytes → T (by_walk n) → IsSaid n
unfolding by_walk
walk_is_said n bytes same =
    let its = quick n.bytes n.question in
    let says = same_answer its.test.same its.said n.says in
    let leaves = same_list (its.leaves its.said) n.leaves in
    let is = sym (its.said_is bytes) in (
      is ∙ same_answer_is its.test.same its.test.is its.said n.says (both_left says leaves same),
      sym its.leaves_is ∙ ap its.leaves is
          ∙ same_list_is (its.leaves its.said) n.leaves (both_right says leaves same),
    )

all_right : T (every (right (λ n. n.bytes) by_walk) named)
unfolding named A B right by_walk quick by_verdict room_or is_byte every same_answer same_verdict
    same_list same_int
    demand_asked reading_of read_all read_on record_of records_before records_of task_of horizon walk overloads closes
    overloaded_at fits_at starts lowest demand work all_demands all_work counted offset frame sum greatest tabulate
    least_from first_least
    b_list same_replay check_of entry_of last_arrival last_tick replay_stops run_stops
    loaded slots_of tick_of first_late first_left next_in pick sooner
    k7_task four twenty overload_list weave next_at taken_by foremost requests_by up_to_last bytes_to
    F same_response response_asked first_above response response_over response_by settles settled_at value share_over
    share_of peak_frame
all_right = tt

goes : values F 5 3 0 ≡ 2 ∷ 8 ∷ 10 ∷ 13 ∷ 14 ∷ []
unfolding F value share_over share_of peak_frame record_of records_before records_of task_of counted offset frame sum
    greatest tabulate lowest least_from
goes = refl

-- K1 to K9, and the list of four requests
pub named_right : NamedRight
named_right = record { rows = rows_right (λ n. n.bytes) by_walk IsSaid walk_is_said named all_right; goes = goes }

-- ---- A's and B's bytes are bytes; and the rows that are cited, each by its name

pub a_bytes : Bytes A
unfolding A is_byte every
a_bytes = are_bytes A tt

pub b_bytes : Bytes B
unfolding A B is_byte every
b_bytes = are_bytes B tt

pub record Cited : Type 0 where
  pub a_fits : IsSaid K2
  pub b_overloaded : IsSaid K4
  pub b_list_whole : IsSaid k4_list
  pub b_from_2 : IsSaid k4_place_2
  pub b_from_5 : IsSaid k4_place_5
  pub b_missed : IsSaid K5
  pub f_responds : IsSaid k8_task_3
  pub one_fits : IsSaid K6

one_said : (n : Named) → T (right (λ n. n.bytes) by_walk n) → IsSaid n
one_said = row_right (λ n. n.bytes) by_walk IsSaid walk_is_said

pub cited : Cited
unfolding A B right by_walk quick by_verdict room_or is_byte every same_answer same_verdict
    same_list same_int
    reading_of read_all read_on record_of records_before records_of task_of horizon walk overloads closes
    overloaded_at fits_at starts lowest demand work all_demands all_work counted offset frame sum greatest tabulate
    least_from first_least
    b_list same_replay check_of entry_of last_arrival last_tick replay_stops run_stops
    loaded slots_of tick_of first_late first_left next_in pick sooner
    twenty overload_list weave next_at taken_by foremost requests_by up_to_last bytes_to
    F same_response response_asked first_above response response_over response_by settles settled_at value share_over
    share_of peak_frame
cited =
    record {
      a_fits = one_said K2 tt;
      b_overloaded = one_said K4 tt;
      b_list_whole = one_said k4_list tt;
      b_from_2 = one_said k4_place_2 tt;
      b_from_5 = one_said k4_place_5 tt;
      b_missed = one_said K5 tt;
      f_responds = one_said k8_task_3 tt;
      one_fits = one_said K6 tt;
    }
