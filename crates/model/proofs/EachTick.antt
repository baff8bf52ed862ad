-- A table of one sporadic task that may ask at every tick, (e,d,1): its work and its demand as products, and when it is
-- undecided. So tables with numbers up to 65,535 are judged with no walk.
-- Assumes nothing.
use mathlib.Core.Path.{◌≡◌, ap, ap₂, ◌∙◌}
use mathlib.Core.Logic.{inl, inr}
use Prim.Native.Nat.{ℕ, zero, suc, ◌+◌, ◌-◌, ◌*◌, ◌≤◌}
use native.Mathlib.Nat.{zero-mul, suc-mul, mul-le-mul_left}
use native.Mathlib.Omega.{arith}
use lib.Dec.{leb}
use Rattle.laws.specs.Sums.{only}
use Rattle.laws.proofs.Cases.{lt_or_le}
use Rattle.laws.proofs.SumLaws.{gate}
use Rattle.model.specs.Task.{Task, Table, ProperTable}
use Rattle.model.specs.Demand.{counted, all_demands, all_work}
use Rattle.model.specs.VerdictMeaning.{Undecided}
use Rattle.model.proofs.CyclicLaws.{Moves, counted_zero, counted_on}
use Rattle.model.proofs.DemandLaws.{demand_moves, work_moves}
use Rattle.model.proofs.ClosingLaws.{not_below, overloads_no}
use Rattle.model.proofs.LoneTask.{Lone, frame_lone, lone_proper, work_lone, demands_lone}

-- ---- products

product_none : (x r e : ℕ) → x ≤ r → (x - r) * e ≡ 0
product_none x r e early = let none : x - r ≡ 0 = omega arith in ap (λ (n : ℕ). n * e) none ∙ zero-mul e

-- from r on, one e more at each number
product_next : (x r e : ℕ) → (suc x - r) * e ≡ only (leb r x) e + (x - r) * e
product_next x r e =
    elim (lt_or_le x r) [
      | inl early ↦
          omega (arith, (gate r x e).shut early, product_none x r e (omega arith), product_none (suc x) r e early)
      | inr fits ↦
          let more : suc x - r ≡ suc (x - r) = omega arith in
          omega (arith, (gate r x e).passes fits, ap (λ (n : ℕ). n * e) more, suc-mul (x - r) e)
    ]

module _ {task : Task} {reach : ℕ → ℕ} (moves : Moves task reach) (one : task.count ≡ 1) (gap : task.P 0 ≡ 1) where
  -- one tick more: the frame that comes first, if it counts, and what counted before
  counted_next : (t : ℕ)
      → counted task reach (suc t) 0 ≡ only (leb (reach 0) (suc t)) (task.E 0) + counted task reach t 0
  counted_next t =
      let less : suc t - task.P 0 ≡ t = omega arith in
      rw (less, frame_lone moves one) at (counted_on moves (suc t) 0 (omega arith))

  -- so from the reach on, one more frame counts at each tick
  counted_each : (t : ℕ) → counted task reach t 0 ≡ (suc t - reach 0) * task.E 0
  counted_each zero =
      omega (arith, counted_zero moves 0, product_none 1 (reach 0) (task.E 0) (moves.room 0 (omega arith)))
  counted_each (suc t) =
      omega (arith, counted_next t, counted_each t, product_next (suc t) (reach 0) (task.E 0))

module _ {table : Table} {e d : ℕ} (good : ProperTable table) (lone : Lone table e d 1) where
  pub work_each : (w : ℕ) → all_work table w ≡ w * e
  work_each w =
      work_lone good lone w
      ∙ counted_each (work_moves (lone_proper good lone)) lone.one_frame lone.p_is w
      ∙ ap₂ ◌*◌ all lone.e_is
    where
      all : suc w - 1 ≡ w
      all = omega arith

  pub demands_each : (t : ℕ) → all_demands table t ≡ (suc t - d) * e
  demands_each t =
      demands_lone good lone t
      ∙ counted_each (demand_moves (lone_proper good lone)) lone.one_frame lone.p_is t
      ∙ ap₂ (λ (r x : ℕ). (suc t - r) * x) lone.d_is lone.e_is

  -- two ticks asked for at every tick close no window
  pub undecided_each : (limit : ℕ) → 2 ≤ e → ((t : ℕ) → t ≤ limit → (suc t - d) * e ≤ t) → Undecided limit table
  undecided_each limit two calm =
      record {
        calm = λ t from within.
            not_below table t (overloads_no table t (omega (arith, demands_each t, calm t within)));
        open_ended = λ w from within. omega (arith, work_each w, mul-le-mul_left w two);
      }
