-- The walk of one cyclic sum: what the loop keeps, and a law for its start, its turn and its end.
-- Assumes nothing.
use mathlib.Core.Path.{◌≡◌, ◌∙◌, ap, ap₂}
use Prim.Native.Nat.{ℕ, ◌+◌, ◌-◌, ◌*◌, ◌%◌, ◌≤◌, ◌<◌}
use native.Mathlib.Omega.{arith}
use lib.Dec.{leb}
use Rattle.laws.specs.Sums.{only}
use Rattle.laws.proofs.SumLaws.{gate}
use Rattle.model.specs.Task.{Task, Proper}
use Rattle.model.specs.Demand.{frame, counted}
use Rattle.model.proofs.CyclicLaws.{Moves, frame_lt, counted_zero, counted_on}
use Rattle.table.specs.Ready.{FrameIs}
use Rattle.table.specs.declared.record.Record.{Record}
use Rattle.sums.specs.declared.asked.Sum.{Sum}
use Rattle.sums.specs.declared.asked.Sum.TheVariants.{Demand, Work}
use Rattle.sums.specs.Sized.{largest, reach_by, Summed}

-- a task moves by either condition
moves_by : (which : Sum) {task : Task} → Proper task → Moves task (reach_by which task)
moves_by Demand proper = record { some = proper.some; gap = proper.moves; room = proper.waits }
moves_by Work proper = record { some = proper.some; gap = proper.moves; room = λ i h. omega arith }

-- with `left` of the time left, at frame i: the sum so far and what is left to count give the whole
pub record Summing (task : Task) (which : Sum) (t start left i sum : ℕ) : Type 0 where
  pub inside : i < task.count
  pub small : sum + largest * left ≤ largest * t
  pub whole : sum + counted task (reach_by which task) left i ≡ counted task (reach_by which task) t start

-- one turn, at frame i and its record x: the room that the frame must have, and what the turn leaves
pub record SummingTurn (task : Task) (which : Sum) (left i sum : ℕ) (x : Record)
    (room left' i' sum' : ℕ) : Type 0 where
  pub some : 0 < left
  pub record_is : FrameIs task i x
  pub room_is : room ≡ reach_by which task i
  pub sum_is : sum' ≡ sum + only (leb room left) x.e
  pub left_is : left' ≡ left - x.p
  pub next_is : i' ≡ (i + 1) % task.count

pub summing_start : (task : Task) (which : Sum) (t start : ℕ) → start < task.count
    → Summing task which t start t start 0
summing_start task which t start inside = record { inside = inside; small = omega arith; whole = omega arith }

module _ {task : Task} (proper : Proper task) {which : Sum} {t start left i sum : ℕ}
    (so_far : Summing task which t start left i sum) where
  pub summing_end : left ≤ 0 → Summed task which t start sum
  summing_end none =
      record {
        is = omega (
          arith,
          so_far.whole,
          ap (λ (u : ℕ). counted task (reach_by which task) u i) zero_left,
          counted_zero (moves_by which proper) i,
        );
        at_most = omega (arith, so_far.small);
      }
    where
      zero_left : left ≡ 0
      zero_left = omega arith

  pub summing_on : {left' i' sum' : ℕ} (x : Record) (room : ℕ)
      → SummingTurn task which left i sum x room left' i' sum'
      → Summing task which t start left' i' sum'
  unfolding frame
  summing_on {left'} {i'} {sum'} x room turn =
      record {
        inside = rw turn.next_is (frame_lt task proper.some i 1);
        small = omega (arith, so_far.small, falls, adds, most, proper.short i so_far.inside);
        whole =
            omega (
              arith,
              so_far.whole,
              counted_on (moves_by which proper) left i so_far.inside,
              adds,
              ap₂ (counted task (reach_by which task)) leaves turn.next_is,
            );
      }
    where
      leaves : left' ≡ left - task.P i
      leaves = omega (arith, turn.left_is, turn.record_is.p)

      -- every P lessens the time left
      falls : left' < left
      falls = omega (arith, turn.some, leaves, proper.moves i so_far.inside)

      adds : sum' ≡ sum + only (leb (reach_by which task i) left) (task.E i)
      adds = turn.sum_is ∙ rw (turn.room_is, turn.record_is.e)

      most : only (leb (reach_by which task i) left) (task.E i) ≤ task.E i
      most = (gate (reach_by which task i) left (task.E i)).most
