-- The cyclic sum, once for both conditions: its frames, its offsets, and one step of it.
-- Assumes nothing.
use mathlib.Core.Path.{◌≡◌, refl, sym, ◌∙◌, ap, ap₂}
use mathlib.Core.Logic.{inl, inr}
use Prim.Native.Nat.{ℕ, zero, suc, ◌+◌, ◌-◌, ◌%◌, ◌≤◌, ◌<◌}
use native.Mathlib.Nat.{zero-add, mod-lt, mod-eq_of_lt, mod-add-mod}
use native.Mathlib.Omega.{arith}
use lib.Dec.{leb}
use Rattle.laws.specs.Sums.{sum, only}
use Rattle.laws.proofs.Cases.{lt_or_le, lt_or_last}
use Rattle.laws.proofs.SumLaws.{gate, sum_head, sum_cong, sum_past}
use Rattle.model.specs.Task.{Task}
use Rattle.model.specs.Demand.{frame, offset, part, counted}

-- time moves on at every frame, and no frame counts in no time
pub record Moves (task : Task) (reach : ℕ → ℕ) : Type 0 where
  pub some : 1 ≤ task.count
  pub gap : (i : ℕ) → i < task.count → 1 ≤ task.P i
  pub room : (i : ℕ) → i < task.count → 1 ≤ reach i

-- ---- frames

pub frame_lt : (task : Task) → 1 ≤ task.count → (s n : ℕ) → frame task s n < task.count
unfolding frame
frame_lt task some s n = mod-lt (s + n) some

pub frame_none : (task : Task) (s : ℕ) → s < task.count → frame task s 0 ≡ s
unfolding frame
frame_none task s inside = ap (λ (i : ℕ). i % task.count) none ∙ mod-eq_of_lt inside
  where
    none : s + 0 ≡ s
    none = omega arith

-- the frames from s on are s and those from the next frame on
pub frame_on : (task : Task) (s n : ℕ) → frame task s (suc n) ≡ frame task (frame task s 1) n
unfolding frame
frame_on task s n = ap (λ (i : ℕ). i % task.count) one_more ∙ sym (mod-add-mod (s + 1) task.count n)
  where
    one_more : s + suc n ≡ s + 1 + n
    one_more = omega arith

-- after the n-th frame from s on comes the next of them
pub frame_next : (task : Task) (s n : ℕ) → frame task (frame task s n) 1 ≡ frame task s (suc n)
unfolding frame
frame_next task s n = mod-add-mod (s + n) task.count 1 ∙ ap (λ (i : ℕ). i % task.count) one_more
  where
    one_more : s + n + 1 ≡ s + suc n
    one_more = omega arith

-- ---- offsets

pub offset_none : (task : Task) (s : ℕ) → offset task s 0 ≡ 0
unfolding offset
offset_none task s = refl

pub offset_next : (task : Task) (s n : ℕ) → offset task s (suc n) ≡ offset task s n + task.P (frame task s n)
unfolding offset
offset_next task s n = refl

pub offset_mono : (task : Task) (s n m : ℕ) → n ≤ m → offset task s n ≤ offset task s m
offset_mono task s n zero h = omega (arith, ap (offset task s) none)
  where
    none : n ≡ 0
    none = omega arith
offset_mono task s n (suc m) h =
    elim (lt_or_last n (suc m) (omega arith)) [
      | inl less ↦ omega (arith, offset_mono task s n m (omega arith), offset_next task s m)
      | inr last ↦ omega (arith, ap (offset task s) last)
    ]

pub offset_on : (task : Task) (s n : ℕ) → s < task.count
    → offset task s (suc n) ≡ task.P s + offset task (frame task s 1) n
unfolding offset
offset_on task s zero inside = omega (arith, ap task.P (frame_none task s inside))
offset_on task s (suc n) inside = omega (arith, offset_on task s n inside, ap task.P (frame_on task s n))

module _ {task : Task} {reach : ℕ → ℕ} (moves : Moves task reach) where
  -- the next frame comes later
  pub offset_rises : (s n : ℕ) → offset task s n < offset task s (suc n)
  unfolding offset
  offset_rises s n = omega (arith, moves.gap (frame task s n) (frame_lt task moves.some s n))

  -- why t + 1 turns are every frame: the frame of turn n comes at n or later
  pub offset_late : (s n : ℕ) → n ≤ offset task s n
  offset_late s zero = omega arith
  offset_late s (suc n) = omega (arith, offset_late s n, offset_rises s n)

  -- ---- the sum

  -- from turn t on nothing counts
  pub part_late : (t s n : ℕ) → t ≤ n → part task reach t s n ≡ 0
  part_late t s n late =
      (gate (offset task s n + reach (frame task s n)) t (task.E (frame task s n))).shut
      (omega (arith, offset_late s n, moves.room (frame task s n) (frame_lt task moves.some s n)))

  -- any t turns or more give the sum
  pub counted_turns : (m t s : ℕ) → t ≤ m → sum m (part task reach t s) ≡ counted task reach t s
  unfolding counted
  counted_turns m t s enough =
      sum_past t m (part task reach t s) enough (part_late t s)
      ∙ sym (sum_past t (suc t) (part task reach t s) (omega arith) (part_late t s))

  pub counted_zero : (s : ℕ) → counted task reach 0 s ≡ 0
  counted_zero s = sym (counted_turns 0 0 s (omega arith)) ∙ unfold sum in refl

  -- a turn later is a turn of the next frame with less time
  part_on : (t s n : ℕ) → s < task.count
      → part task reach t s (suc n) ≡ part task reach (t - task.P s) (frame task s 1) n
  part_on t s n inside =
      ap₂ (λ (off i : ℕ). only (leb (off + reach i) t) (task.E i)) (offset_on task s n inside) (frame_on task s n)
      ∙ moved (task.P s) (offset task next n) (reach i) (task.E i)
      (moves.room i (frame_lt task moves.some next n))
    where
      next : ℕ
      next = frame task s 1

      i : ℕ
      i = frame task next n

      moved : (p off r e : ℕ) → 1 ≤ r → only (leb (p + off + r) t) e ≡ only (leb (off + r) (t - p)) e
      moved p off r e room =
          elim (lt_or_le t (p + off + r)) [
            | inl late ↦ (gate (p + off + r) t e).shut late ∙ sym ((gate (off + r) (t - p) e).shut (omega arith))
            | inr fits ↦ (gate (p + off + r) t e).passes fits ∙ sym ((gate (off + r) (t - p) e).passes (omega arith))
          ]

  -- one step: the frame's E where its reach fits, and the rest after its P
  pub counted_on : (t s : ℕ) → s < task.count
      → counted task reach t s
      ≡ only (leb (reach s) t) (task.E s) + counted task reach (t - task.P s) (frame task s 1)
  counted_on t s inside =
      sym (counted_turns (suc t) t s (omega arith))
      ∙ sum_head t (part task reach t s)
      ∙ ap₂ ◌+◌ first
      (sum_cong t (λ n. part task reach t s (suc n)) (part task reach (t - task.P s) (frame task s 1))
      (λ n h. part_on t s n inside)
      ∙ counted_turns t (t - task.P s) (frame task s 1) (omega arith))
    where
      first : part task reach t s 0 ≡ only (leb (reach s) t) (task.E s)
      first =
          ap₂ (λ (off i : ℕ). only (leb (off + reach i) t) (task.E i)) (offset_none task s) (frame_none task s inside)
          ∙ ap (λ (r : ℕ). only (leb r t) (task.E s)) (zero-add (reach s))
