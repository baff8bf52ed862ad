-- What is shown of each question, a line for each: how it is refused and what its form keeps; how its answer is
-- computed where it is named; and that its function has one answer only. A new question is a line in each of the three.
-- Assumes nothing.
use mathlib.Core.Path.{refl, ◌∙◌}
use mathlib.Core.List.{List}
use Prim.Native.Nat.{ℕ}
use base.Fml.{Lft}
use denote.Ref.{at_last}
use Rattle.table.specs.Bytes.{Bytes}
use Rattle.table.specs.TableOf.{table_of}
use Rattle.desk.specs.Orders.{table_only, time_order, task_order, frame_order, size_order, writing_order}
use Rattle.desk.specs.OverloadRules.{list_in}
use Rattle.desk.specs.Questions.{read_asked, demand_asked, work_asked, margin_asked, window_asked, verdict_asked, response_asked, size_asked, overload_asked}
use Rattle.desk.specs.ListQuestions.{counts, loads, replays, list_asked, load_asked, replay_asked}
use Rattle.promise.specs.Asked.{Question, read, demand, work, margin, window, verdict, response, overload_size, overload, list, load, replay, row}
use Rattle.promise.specs.ContractRows.{Slice, Buffer, read_only}
use Rattle.promise.specs.EveryQuestion.{OneAnswer}
use Rattle.promise.proofs.OrdersRight.{time_right, task_right, frame_right, size_right, writing_right}
use Rattle.promise.proofs.EveryNumbered.{numbers_one}
use Rattle.promise.proofs.FormsKept.{shape_kept, amount_kept, margin_kept, window_kept, verdict_kept, response_kept, size_kept, written_kept, listed_kept, loading_kept, ending_kept}
use Rattle.promise.proofs.EveryExact.{Told, told_order, told_list}
use Rattle.promise.proofs.SameLaws.{number_test, int_test, response_test, unnamed}
use Rattle.promise.proofs.QuickLaws.{Quick, as_said, verdict_quick, size_quick, overload_quick, replay_quick}
use Rattle.promise.proofs.OneAnswerLaws.{one_of}

module _ (s : List ℕ) (bytes : Bytes s) where
  pub told : (q : Question) → Told (row s q).Given (row s q).said ((row s q).ask (table_of s)) (row s q).form
  unfolding read_asked demand_asked work_asked margin_asked window_asked verdict_asked response_asked size_asked
      overload_asked list_asked load_asked replay_asked numbers_one
  told read = told_order s shape_kept table_only (row s read).ask (λ well. tt) refl
  told (demand k t) =
      told_order s amount_kept (task_order k t) (row s (demand k t)).ask (λ well. task_right s k t) refl
  told (work k w) = told_order s amount_kept (task_order k w) (row s (work k w)).ask (λ well. task_right s k w) refl
  told (margin t) = told_order s margin_kept (time_order t) (row s (margin t)).ask (λ well. time_right s t) refl
  told window = told_order s window_kept table_only (row s window).ask (λ well. tt) refl
  told verdict = told_order s verdict_kept table_only (row s verdict).ask (λ well. tt) refl
  told (response k i) =
      told_order s response_kept (frame_order k i) (row s (response k i)).ask (λ well. frame_right s k i) refl
  told overload_size = told_order s size_kept size_order (row s overload_size).ask (size_right s bytes) refl
  told (overload buffer place) =
      told_order s written_kept (writing_order buffer place) list_in (λ well. writing_right s bytes well buffer place)
      refl
  told (list l) = told_list s listed_kept l counts
  told (load l) = told_list s loading_kept l loads
  told (replay l) = told_list s ending_kept l replays

unfoldable pub quick : (s : List ℕ) (q : Question) → Quick s (row s q)
quick s read = as_said s (row s read) unnamed refl
quick s (demand k t) = as_said s (row s (demand k t)) number_test refl
quick s (work k w) = as_said s (row s (work k w)) number_test refl
quick s (margin t) = as_said s (row s (margin t)) int_test refl
quick s window = as_said s (row s window) unnamed refl
quick s verdict = verdict_quick s
quick s (response k i) = as_said s (row s (response k i)) response_test refl
quick s overload_size = size_quick s
quick s (overload buffer place) = overload_quick s buffer place
quick s (list l) = as_said s (row s (list l)) number_test refl
quick s (load l) = as_said s (row s (load l)) unnamed refl
quick s (replay l) = replay_quick s l

module _ (κ ℓ : Lft) (s : Slice) (other : Buffer) where
  -- a return tells what the answer is, and mostly that nothing is lent; last a return that the contract allows
  pub one_answer : (q : Question) → (row s.now q).Lends other.now → OneAnswer κ ℓ s other q
  one_answer read lent =
      one_of κ ℓ s other read tt (λ r after (x, is, none). is) (λ r after (x, is, none). none)
      ((s, tt), refl, refl)
  one_answer (demand k t) lent =
      one_of κ ℓ s other (demand k t) tt (λ r after (x, is, none). is) (λ r after (x, is, none). none)
      ((s, (k, (t, tt))), refl, refl)
  one_answer (work k w) lent =
      one_of κ ℓ s other (work k w) tt (λ r after (x, is, none). is) (λ r after (x, is, none). none)
      ((s, (k, (w, tt))), refl, refl)
  one_answer (margin t) lent =
      one_of κ ℓ s other (margin t) tt (λ r after (x, is, none). is) (λ r after (x, is, none). none)
      ((s, (t, tt)), refl, refl)
  one_answer window lent =
      one_of κ ℓ s other window tt (λ r after (x, is, none). is) (λ r after (x, is, none). none)
      ((s, tt), refl, refl)
  one_answer verdict lent =
      one_of κ ℓ s other verdict tt (λ r after (x, is, none). is) (λ r after (x, is, none). none)
      ((s, tt), refl, refl)
  one_answer (response k i) lent =
      one_of κ ℓ s other (response k i) tt (λ r after (x, is, none). is) (λ r after (x, is, none). none)
      ((s, (k, (i, tt))), refl, refl)
  one_answer overload_size lent =
      one_of κ ℓ s other overload_size tt (λ r after (x, is, none). is) (λ r after (x, is, none). none)
      ((s, tt), refl, refl)
  one_answer (overload buffer place) lent =
      one_of κ ℓ s other (overload buffer place) tt
      (λ r after (x, wrote, left). rw (← lent) wrote.answer_is)
      (λ r after (x, wrote, left). left ∙ rw (← lent) wrote.buffer_is)
      (rw (← lent) (
        (s, (at_last other (row s.now (overload other.now place)).after, (place, tt))),
        record { answer_is = refl; buffer_is = refl },
        refl,
      ))
  one_answer (list l) lent =
      one_of κ ℓ s other (list l) tt (λ r after (x, is, none). rw (← lent) is) (λ r after (x, is, none). none)
      (rw (← lent) ((s, (read_only other, tt)), refl, refl))
  one_answer (load l) lent =
      one_of κ ℓ s other (load l) tt (λ r after (x, is, none). rw (← lent) is) (λ r after (x, is, none). none)
      (rw (← lent) ((s, (read_only other, tt)), refl, refl))
  one_answer (replay l) lent =
      one_of κ ℓ s other (replay l) tt (λ r after (x, is, none). rw (← lent) is) (λ r after (x, is, none). none)
      (rw (← lent) ((s, (read_only other, tt)), refl, refl))
