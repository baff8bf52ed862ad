-- One task's requests up to the last that is due, counted request by request: what the loop keeps, and a law for its
-- start, its turn and its end.
-- Assumes nothing.
use mathlib.Core.Bool.{Bool, true, false, cond}
use mathlib.Core.Path.{◌≡◌, sym, ◌∙◌, ap}
use mathlib.Core.Logic.{inl, inr}
use Prim.Native.Nat.{ℕ, suc, ◌+◌, ◌-◌, ◌%◌, ◌≤◌, ◌<◌}
use native.Mathlib.Numerals.{add-one}
use native.Mathlib.Omega.{arith}
use lib.Dec.{leb}
use borrow.Author.Tests.{le-leb, lt-leb}
use Rattle.laws.specs.Search.{up_to_last}
use Rattle.laws.proofs.Cases.{lt_or_le}
use Rattle.laws.proofs.LastLaws.{last_none, last_hit, last_miss, last_longer}
use Rattle.model.specs.Task.{Task, Proper}
use Rattle.model.specs.Demand.{frame, offset}
use Rattle.model.specs.Overload.{due_by, requests_by}
use Rattle.model.proofs.CyclicLaws.{frame_lt, frame_none, frame_next, offset_none, offset_next, offset_mono}
use Rattle.table.specs.Ready.{FrameIs}
use Rattle.table.specs.declared.record.Record.{Record}
use Rattle.overload.specs.Counts.{Counted}

-- n requests are tried: the time left at the next one's arrival, its frame, and how many go up to the last that is due
pub record Counting (task : Task) (start t left i n many : ℕ) : Type 0 where
  pub left_is : left ≡ t - offset task start n
  pub frame_is : i ≡ frame task start n
  pub many_is : many ≡ up_to_last (due_by task start t) n
  pub inside : i < task.count
  -- each P takes a tick at least
  pub turns : n + left ≤ t
  pub few : many ≤ n

-- what one turn reads and makes: the record x of frame i, and whether its deadline fits in the time left
pub record CountingTurn (task : Task) (left i left' i' : ℕ) (x : Record) (due : Bool) : Type 0 where
  pub some : 0 < left
  pub found : FrameIs task i x
  pub due_is : leb x.d left ≡ due
  pub left_turns : left' ≡ left - x.p
  pub frame_turns : i' ≡ (i + 1) % task.count

pub counting_start : (task : Task) (start t : ℕ) → start < task.count → Counting task start t t start 0 0
counting_start task start t inside =
    record {
      left_is = omega (arith, offset_none task start);
      frame_is = sym (frame_none task start inside);
      many_is = sym (last_none (due_by task start t));
      inside = inside;
      turns = omega arith;
      few = omega arith;
    }

-- ---- one more number tried

last_turn : (test : ℕ → Bool) (n : ℕ) {many many' : ℕ} (passes : Bool) → test n ≡ passes → many ≡ up_to_last test n
    → many' ≡ cond passes (n + 1) many → many' ≡ up_to_last test (n + 1)
last_turn test n true hit so_far turns =
    turns ∙ add-one n ∙ sym (ap (up_to_last test) (add-one n) ∙ last_hit test n hit)
last_turn test n false miss so_far turns =
    turns ∙ so_far ∙ sym (ap (up_to_last test) (add-one n) ∙ last_miss test n miss)

-- a deadline fits in the time left exactly where it is met
fits_left : (d left off t : ℕ) → left ≡ t - off → 0 < left → leb (off + d) t ≡ leb d left
fits_left d left off t left_is some =
    elim (lt_or_le left d) [
      | inl late ↦ lt-leb (off + d) t (omega arith) ∙ sym (lt-leb d left late)
      | inr met ↦ le-leb (off + d) t (omega arith) ∙ sym (le-leb d left met)
    ]

module _ {task : Task} (proper : Proper task) {start t left i n many : ℕ}
    (so_far : Counting task start t left i n many) where
  -- every P lessens the time left
  pub counting_less : {left' : ℕ} (x : Record) → FrameIs task i x → left' ≡ left - x.p → 0 < left → left' < left
  counting_less x found turns some = omega (arith, found.p, proper.moves i so_far.inside)

  module _ (x : Record) (due : Bool) {left' i' : ℕ} (turn : CountingTurn task left i left' i' x due) where
    -- the task's own numbers in this turn
    p_is : x.p ≡ task.P (frame task start n)
    p_is = turn.found.p ∙ ap task.P so_far.frame_is

    due_here : due_by task start t n ≡ due
    due_here =
        rw (sym so_far.frame_is, sym turn.found.d)
        (fits_left x.d left (offset task start n) t so_far.left_is turn.some ∙ turn.due_is)

    next_is : i' ≡ frame task start (n + 1)
    unfolding frame
    next_is =
        turn.frame_turns
        ∙ ap (λ (j : ℕ). frame task j 1) so_far.frame_is
        ∙ frame_next task start n
        ∙ ap (frame task start) (sym (add-one n))

    later : offset task start (n + 1) ≡ offset task start n + x.p
    later = ap (offset task start) (add-one n) ∙ offset_next task start n ∙ omega (arith, p_is)

    pub counting_on : {many' : ℕ} → many' ≡ cond due (n + 1) many → Counting task start t left' i' (n + 1) many'
    counting_on {many' = many'} turns =
        record {
          left_is = omega (arith, turn.left_turns, so_far.left_is, later);
          frame_is = next_is;
          many_is = last_turn (due_by task start t) n due due_here so_far.many_is turns;
          inside = rw next_is (frame_lt task proper.some start (n + 1));
          turns = omega (arith, so_far.turns, counting_less x turn.found turn.left_turns turn.some);
          few = most due turns;
        }
      where
        most : (due : Bool) → many' ≡ cond due (n + 1) many → many' ≤ n + 1
        most true is = omega arith
        most false is = omega (arith, so_far.few)

  -- no time is left: every later request comes at t or after it, and none of them is due by t
  pub counting_end : left ≤ 0 → Counted task start t many
  unfolding requests_by
  counting_end none =
      record {
        is = so_far.many_is ∙ sym (last_longer (due_by task start t) n (suc t) (omega (arith, so_far.turns)) late);
        at_most = omega (arith, so_far.turns, so_far.few);
      }
    where
      late : (j : ℕ) → n ≤ j → j < suc t → due_by task start t j ≡ false
      late j after within =
          lt-leb (offset task start j + task.D (frame task start j)) t
          (omega (
            arith,
            so_far.left_is,
            offset_mono task start n j after,
            proper.waits (frame task start j) (frame_lt task proper.some start j),
          ))
