-- The numbers are those of the definitions: what each question is answered where nothing is refused.
-- Assumes nothing.
use mathlib.Core.Path.{◌≡◌, sym, ap, subst, ◌∙◌}
use mathlib.Core.List.{List}
use Prim.Native.Nat.{ℕ, ◌≤◌, ◌<◌}
use native.Mathlib.Omega.{arith}
use Rattle.laws.specs.Search.{Found}
use Rattle.model.specs.Task.{Task}
use Rattle.model.specs.Demand.{demand, work, margin}
use Rattle.model.specs.Verdict.{horizon, closing_window}
use Rattle.model.specs.VerdictMeaning.{WindowSays}
use Rattle.model.specs.Request.{HasFrame}
use Rattle.model.specs.Jobs.{jobs_of}
use Rattle.model.specs.Response.{Response, higher_share, response}
use Rattle.model.specs.ResponseMeaning.{ResponseSays}
use Rattle.model.specs.Answer.{answered}
use Rattle.model.proofs.AllLaws.{margin_zero}
use Rattle.model.proofs.HigherLaws.{response_right, response_only}
use Rattle.model.proofs.WindowLaws.{window_says}
use Rattle.table.specs.Bytes.{Bytes, records}
use Rattle.table.specs.declared.reader.Shape.{Shape}
use Rattle.table.specs.TableOf.{table_of}
use Rattle.table.specs.WellFormed.{WellFormed}
use Rattle.table.proofs.TaskLaws.{well_proper}
use Rattle.requests.specs.Entry.{list_of}
use Rattle.requests.specs.Accepted.{Accepted}
use Rattle.table.specs.Deadlines.{WithinP}
use Rattle.desk.specs.Orders.{table_only, time_order, task_order, frame_order}
use Rattle.desk.specs.Questions.{read_asked, one_task, demand_asked, work_asked, margin_asked, window_asked, response_asked}
use Rattle.desk.specs.ListQuestions.{counts, replays, list_asked}
use Rattle.bench.proofs.ReplaySays.{accepted_replayable, replay_only}
use Rattle.promise.specs.Numbers.{ReplayedRightly, Numbers}
use Rattle.promise.proofs.TableLaws.{well_judged}
use Rattle.promise.proofs.ListExact.{good_answered, replay_means}
use Rattle.promise.proofs.OrderExact.{order_answered, order_kept}
use Rattle.promise.proofs.OrdersRight.{time_right, task_right, frame_right}
use Rattle.promise.proofs.BenchLaws.{loaded_rightly}
use Rattle.promise.proofs.PassedLaws.{accepted_replayed}

-- bytes that are read are a table
pub read_well : (s : List ℕ) {shape : Shape} → read_asked s ≡ answered shape → WellFormed s
unfolding read_asked
read_well s is =
    (order_kept s table_only (λ table. record { records = records s; tasks = table.tasks }) (λ good. tt) is).0

module _ (s : List ℕ) (well : WellFormed s) where
  read_answered : read_asked s ≡ answered (record { records = records s; tasks = (table_of s).tasks })
  unfolding read_asked
  read_answered =
      order_answered s table_only (λ table. record { records = records s; tasks = table.tasks }) (λ good. tt) well tt

  -- of one task at a time within the limit
  one_answered : (sum : Task → ℕ → ℕ) (k t : ℕ) → k < (table_of s).tasks → t ≤ horizon
      → one_task sum s k t ≡ answered (sum ((table_of s).task k) t)
  one_answered sum k t known near =
      order_answered s (task_order k t) (λ table. sum (table.task k) t) (λ good. task_right s k t) well
      (known, (near, tt))

  margin_answered : (t : ℕ) → t ≤ horizon → margin_asked s t ≡ answered (margin (table_of s) t)
  unfolding margin_asked
  margin_answered t near =
      order_answered s (time_order t) (λ table. margin table t) (λ good. time_right s t) well (near, tt)

  window_answered : window_asked s ≡ answered (closing_window horizon (table_of s))
  unfolding window_asked
  window_answered = order_answered s table_only (closing_window horizon) (λ good. tt) well tt

  frame_answered : (k i : ℕ) → HasFrame (table_of s) k i → WithinP s (records s)
      → response_asked s k i ≡ answered (response (table_of s) k i)
  unfolding response_asked
  frame_answered k i has within =
      order_answered s (frame_order k i) (λ table. response table k i) (λ good. frame_right s k i) well
      (has, (within, tt))

  -- whichever is answered is the response of the recurrence
  response_told : (k i : ℕ) (r : Response) → response_asked s k i ≡ answered r
      → ResponseSays (higher_share (table_of s) k) (((table_of s).task k).E i) (((table_of s).task k).D i) r
  unfolding response_asked
  response_told k i r is =
      let (good, same, keeps) =
      order_kept s (frame_order k i) (λ table. response table k i) (λ good. frame_right s k i) is in
      subst (ResponseSays (higher_share (table_of s) k) (((table_of s).task k).E i) (((table_of s).task k).D i))
      (sym same) (response_right (table_of s) k i)

  window_told : (w : Found) → window_asked s ≡ answered w → WindowSays horizon (table_of s) w
  window_told w asked =
      let is : closing_window horizon (table_of s) ≡ w = cc window_answered in
      subst (WindowSays horizon (table_of s)) is (window_says horizon (table_of s))

  replayed : Bytes s → (list : List ℕ) → Accepted (table_of s) list → ReplayedRightly s list
  replayed bytes list accepted =
      let r = replays (table_of s) (list_of list) in
      let is = accepted_replayed s list well accepted in
      record { answer = r; is = is; says = replay_means s bytes list r is }

  pub numbers : Bytes s → Numbers s
  unfolding demand_asked work_asked list_asked
  numbers bytes =
      record {
        reads = read_answered;
        demands = one_answered demand;
        works = one_answered work;
        margins = margin_answered;
        margin_at_0 = margin_answered 0 (omega arith) ∙ ap answered (margin_zero (well_proper bytes well));
        window = window_answered;
        window_says = window_told;
        verdict_is = well_judged s well;
        responses = frame_answered;
        responses_say = response_told;
        responses_only = λ k i r has within says.
            frame_answered k i has within ∙ ap answered (sym (response_only (table_of s) k i r says));
        counts = λ list accepted. good_answered counts s list (record { table_good = well; list_good = accepted });
        loads = loaded_rightly s bytes well;
        replays = replayed bytes;
        replays_only = λ list r accepted says.
            accepted_replayed s list well accepted
            ∙ ap answered (sym (replay_only (jobs_of (table_of s) (list_of list))
            (accepted_replayable (well_proper bytes well) list accepted) r says));
      }
