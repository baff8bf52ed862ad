-- Worked examples, so that no promise is about nothing: for each theorem a case that meets what it asks, and what the
-- theorem, or the rules, then say of it.
-- Assumes nothing.
use Rattle.std.specs.Prelude.{◌≡◌, [], ℕ, suc, ◌≤◌, pos, negsuc, replicate}
use Rattle.model.specs.Demand.{counted, work}
use Rattle.model.specs.Verdict.{overloaded, fits, undecided}
use Rattle.model.specs.Request.{Legal}
use Rattle.model.specs.Machine.{sooner, left_at}
use Rattle.model.specs.Replay.{all_met, Missed}
use Rattle.model.specs.Response.{on_time, late, response_by, response}
use Rattle.model.specs.Answer.{answered}
use Rattle.model.proofs.EdgeExamples as Edge
use Rattle.model.proofs.JobExamples.{TooMany, ReleasedFirst, one_job, EndsEarly, PlacedFirst}
use Rattle.model.proofs.PeakStart.{peak_first}
use Rattle.table.specs.TableOf.{table_of}
use Rattle.requests.specs.Accepted.{Accepted}
use Rattle.desk.specs.Orders.{writing_order}
use Rattle.desk.specs.Questions.{verdict_asked, response_asked}
use Rattle.desk.specs.ListQuestions.{replay_asked}
use Rattle.desk.specs.Flat.{none, refusal}
use Rattle.desk.specs.FlatVerdict.{flat_verdict}
use Rattle.promise.specs.Tables.{A, B, b_list, each_2, each_21846, each_32769, longest}
use Rattle.promise.specs.Given.{Given, ListGiven}
use Rattle.promise.specs.Promises.{FinishesEach}
use Rattle.promise.specs.RefusalCases.{CasesGiven}
use Rattle.promise.specs.ExampleCases.{a_list, a_round, b_jobs, BWritten, LeavesJob, both, its_own, late_table, one, other_first}

pub record Examples : Type 0 where
  -- passed: A fits; a legal list of every length, with arrivals past every bound; the first three requests in bytes,
  -- the last unit of which is given in tick 9; and the longest window of one task
  pub a_legal : (n : ℕ) → Legal (table_of A) (a_round n)
  pub a_unbounded : (n : ℕ) → n ≤ ((a_round (suc n)).request n).arrival
  pub a_finishes : (n : ℕ) → FinishesEach (table_of A) (a_round n)
  pub a_accepted : Accepted (table_of A) a_list
  pub a_met : replay_asked A a_list ≡ answered (all_met 10)
  pub longest_fits : verdict_asked longest ≡ answered (fits 65535 (pos 0) 65535)
  -- .. and that the list must be legal: two requests of (1,1,1) at one tick are not, and are not finished
  pub one_fits : verdict_asked one ≡ answered (fits 1 (pos 0) 1)
  pub not_legal : Legal (table_of one) both → ⊥
  pub not_finished : FinishesEach (table_of one) both → ⊥
  -- overloaded: B with its list; which request each of two schedules leaves; the machine's miss; and the last t
  pub b_is_written : BWritten
  pub own_leaves : LeavesJob its_own 1
  pub other_leaves : LeavesJob other_first 0
  pub b_misses : Missed b_jobs (sooner b_jobs) 2 1
  pub last_t : verdict_asked each_32769 ≡ answered (overloaded 65536 (negsuc 1) (replicate 16 0))
  -- undecided
  pub two_undecided : verdict_asked each_2 ≡ answered undecided
  pub third_undecided : verdict_asked each_21846 ≡ answered undecided
  -- refusals: each way that the document names; 13 of A, before 12; and B with its list, to which none is given
  pub cases : CasesGiven
  pub a_unwritten : Given A (writing_order [] 1) 13 0
  pub b_none : (number index : ℕ) → ListGiven B b_list number index → ⊥
  -- callers: each number of a flat verdict is met
  pub flat_longest : flat_verdict (verdict_asked longest)
      ≡ record { refusal = none; verdict = 2; t = 65535; margin = pos 0; window = 65535; starts = replicate 16 0 }
  pub flat_last : flat_verdict (verdict_asked each_32769)
      ≡ record { refusal = none; verdict = 1; t = 65536; margin = negsuc 1; window = 0; starts = replicate 16 0 }
  pub flat_two : flat_verdict (verdict_asked each_2)
      ≡ record { refusal = none; verdict = 3; t = 0; margin = pos 0; window = 0; starts = replicate 16 0 }
  pub flat_empty : flat_verdict (verdict_asked [])
      ≡ record { refusal = refusal 1 0; verdict = 0; t = 0; margin = pos 0; window = 0; starts = replicate 16 0 }
  -- responses: late, the edges of the recurrence, and that the peak start can be too kind
  pub late_one : response_asked late_table 1 0 ≡ answered (late 5 1)
  pub edges : Edge.Edges
  pub from_the_peak : response (Edge.over peak_first (Edge.sporadic_task 3 9 20)) 1 0 ≡ on_time 8 2
  pub from_the_heaviest : response_by (work peak_first) 3 9 ≡ late 10 2
  pub heaviest_start : counted peak_first (λ i. 1) 10 3 ≡ work peak_first 10
  -- the theorems about jobs
  pub too_many : TooMany
  pub released_first : ReleasedFirst
  pub one_done : left_at one_job (sooner one_job) 1 0 ≡ 0
  pub ends_early : EndsEarly
  pub placed_first : PlacedFirst
