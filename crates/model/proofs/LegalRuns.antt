-- The requests of one task in a legal list, by their turn, are a run of the task: each is the next frame, and comes at
-- least P after the one before it. Where the task has any, the first is at some frame of the task.
-- Assumes nothing.
use mathlib.Core.Bool.{Bool}
use mathlib.Core.Path.{◌≡◌, sym, ◌∙◌, ap, subst}
use Prim.Native.Nat.{ℕ, zero, suc, ◌<◌}
use native.Mathlib.Omega.{arith}
use lib.Dec.{eqb}
use borrow.Author.Tests.{eq-eqb, eqb-true}
use Rattle.laws.proofs.NthLaws.{nth, Turn, nth_turn, nth_rises, nth_between}
use Rattle.model.specs.Task.{Table}
use Rattle.model.specs.Demand.{frame}
use Rattle.model.specs.Run.{Run}
use Rattle.model.specs.Request.{Request, Requests, of_task, Next, Follows, Legal}
use Rattle.model.proofs.CyclicLaws.{frame_none, frame_next}

-- whether request i is of task k
abbrev pub is_of : Requests → ℕ → ℕ → Bool
is_of list k i = eqb (list.request i).task k

-- request n of task k, from 0: its place, and the request
abbrev pub place_of : Requests → ℕ → ℕ → ℕ
place_of list k n = nth (is_of list k) list.count n

abbrev pub turn_of : Requests → ℕ → ℕ → Request
turn_of list k n = list.request (place_of list k n)

-- the frame of its first request
abbrev pub first_frame : Requests → ℕ → ℕ
first_frame list k = (turn_of list k 0).frame

module _ {table : Table} {list : Requests} (legal : Legal table list) (k : ℕ) where
  abbrev many : ℕ
  many = of_task list k list.count

  at_turn : (n : ℕ) → n < many → Turn (is_of list k) list.count n (place_of list k n)
  at_turn n inside = nth_turn (is_of list k) list.count n inside

  turn_task : (n : ℕ) → n < many → (turn_of list k n).task ≡ k
  turn_task n inside = eqb-true (turn_of list k n).task k (at_turn n inside).passes

  turn_next : (n : ℕ) → suc n < many → Next list (place_of list k n) (place_of list k (suc n))
  turn_next n inside =
      record {
        earlier = nth_rises (is_of list k) list.count n inside;
        same = turn_task n (omega arith) ∙ sym (turn_task (suc n) inside);
        between = λ m after before same.
            nth_between (is_of list k) list.count n inside m after before
            (eq-eqb (list.request m).task k (same ∙ turn_task (suc n) inside));
      }

  turn_follows : (n : ℕ) → suc n < many → Follows table (turn_of list k n) (turn_of list k (suc n))
  turn_follows n inside = legal.follows _ _ (at_turn (suc n) inside).below (turn_next n inside)

  pub first_inside : 0 < many → first_frame list k < (table.task k).count
  first_inside some =
      subst (λ (j : ℕ). first_frame list k < (table.task j).count) (turn_task 0 some)
      (legal.known _ (at_turn 0 some).below).frame

  pub turn_frame : (n : ℕ) → n < many → (turn_of list k n).frame ≡ frame (table.task k) (first_frame list k) n
  turn_frame zero inside = sym (frame_none (table.task k) (first_frame list k) (first_inside inside))
  turn_frame (suc n) inside =
      (turn_follows n inside).frame_is
      ∙ ap (λ (j : ℕ). frame (table.task j) (turn_of list k n).frame 1) (turn_task n (omega arith))
      ∙ ap (λ (i : ℕ). frame (table.task k) i 1) (turn_frame n (omega arith))
      ∙ frame_next (table.task k) (first_frame list k) n

  pub legal_run : Run (table.task k) (first_frame list k) many (λ n. (turn_of list k n).arrival)
  legal_run n inside =
      omega (
        arith,
        (turn_follows n inside).not_soon,
        ap (λ (j : ℕ). (table.task j).P (turn_of list k n).frame) (turn_task n (omega arith)),
        ap (table.task k).P (turn_frame n (omega arith)),
      )
