-- A bench that holds what the machine has left, over any order, and what it then takes for late, for done and for next.
-- Assumes nothing.
use mathlib.Core.Path.{◌≡◌, refl, sym, ◌∙◌, ap}
use mathlib.Core.Logic.{inl, inr}
use Prim.Native.Nat.{ℕ, suc, ◌≤◌, ◌<◌}
use native.Mathlib.Omega.{arith}
use native.Mathlib.Numerals.{add-one}
use lib.ListN.{get_or}
use Rattle.laws.specs.Search.{Found}
use Rattle.laws.proofs.Cases.{lt_or_le}
use Rattle.model.specs.Jobs.{Jobs}
use Rattle.model.specs.Machine.{Order, chosen, give, left_at}
use Rattle.model.specs.Tick.{LowestLate}
use Rattle.model.specs.Replay.{LateAt, UndoneAt}
use Rattle.model.proofs.JobsSame.{Beside, AgreeBelow, chosen_same, give_same}
use Rattle.model.proofs.MachineLaws.{left_start, left_step, give_falls}
use Rattle.requests.specs.Entry.{most_requests}
use Rattle.bench.specs.declared.state.Bench.{Bench}
use Rattle.bench.specs.Rule.{jobs_in, less_one, moved_on}
use Rattle.bench.specs.Loaded.{loaded}
use Rattle.bench.specs.Ticked.{left_in, LateIn, Misses, NoneLate, SomeLeft}
use Rattle.bench.specs.BenchMeaning.{Holds}
use Rattle.bench.proofs.LoadedLaws.{slots_at, slots_read, slots_past}
use Rattle.bench.proofs.SlotLaws.{less_one_at, kept_same, kept_on}

-- "all zero before loading", and then as loaded
pub holds_start : (jobs : Jobs) (before : Order) → jobs.count ≤ most_requests → Holds jobs before 0 (loaded jobs)
unfolding loaded
holds_start jobs before fits =
    record {
      tick = refl;
      left = λ k inside. slots_at jobs.count jobs.amount fits k inside ∙ sym (left_start jobs before k);
      past = slots_past jobs.count jobs.amount;
      kept = kept_same;
    }

module _ {jobs : Jobs} {before : Order} {t : ℕ} {b : Bench} (fits : jobs.count ≤ most_requests)
    (holds : Holds jobs before t b) where
  -- the slots are the jobs, and others behind them
  pub slots_beside : Beside jobs (jobs_in b)
  unfolding loaded
  slots_beside =
      record {
        fits = fits;
        task = slots_read jobs.count jobs.task holds.kept.task fits;
        arrive = slots_read jobs.count jobs.arrive holds.kept.arrive fits;
        release = slots_read jobs.count jobs.release holds.kept.release fits;
        due = slots_read jobs.count jobs.due holds.kept.due fits;
      }

  -- a slot with work left is a job's
  undone_inside : (k : ℕ) → 0 < left_in b k → k < jobs.count
  undone_inside k undone =
      elim (lt_or_le k jobs.count) [ inl inside ↦ inside | inr past ↦ absurd (omega (arith, holds.past k past)) ]

  -- ---- late in the bench is late on the machine

  late_there : (k : ℕ) → LateIn b k → LateAt jobs before t k
  late_there k late =
      let inside = undone_inside k late.undone in
      record {
        inside = inside;
        undone = omega (arith, holds.left k inside, late.undone);
        over = omega (arith, slots_beside.due k inside, late.over, holds.tick);
      }

  late_here : (k : ℕ) → LateAt jobs before t k → LateIn b k
  late_here k late =
      record {
        inside = omega (arith, late.inside);
        undone = omega (arith, holds.left k late.inside, late.undone);
        over = omega (arith, slots_beside.due k late.inside, late.over, holds.tick);
      }

  pub lowest_there : (i : ℕ) → Misses b i → LowestLate jobs t (left_at jobs before t) i
  lowest_there i misses =
      record {
        late = late_there i misses.late;
        lowest = λ j less late. misses.lowest j less (late_here j late);
      }

  pub none_there : NoneLate b → (k : ℕ) → LateAt jobs before t k → ⊥
  none_there none k late = none k (late_here k late)

  -- ---- and so is what is done, and what is not

  pub done_there : ((k : ℕ) → k < most_requests → left_in b k ≡ 0) → (k : ℕ) → k < jobs.count
      → left_at jobs before t k ≡ 0
  done_there done k inside = sym (holds.left k inside) ∙ done k (omega arith)

  pub undone_there : SomeLeft b → UndoneAt jobs before t
  undone_there some =
      let inside = undone_inside some.job some.undone in
      record {
        job = some.job;
        inside = inside;
        undone = omega (arith, holds.left some.job inside, some.undone);
      }

  -- ---- and the next is the same, by an order of the slots that agrees with that of the jobs

  module _ {after : Order} (orders : AgreeBelow jobs.count before after) where
    abbrev next : Found
    next = chosen (jobs_in b) after b.tick (left_in b)

    next_same : next ≡ chosen jobs before t (left_at jobs before t)
    next_same =
        ap (λ u. chosen (jobs_in b) after u (left_in b)) holds.tick
        ∙ chosen_same slots_beside orders (record { left_is = holds.left; idle = holds.past }) t

    moved_left : (k : ℕ) → k < jobs.count → get_or (less_one b.left next) k 0 ≡ left_at jobs before (suc t) k
    moved_left k inside =
        less_one_at b.left next k
        ∙ give_same next (left_at jobs before t) (left_in b) k (holds.left k inside)
        ∙ ap (λ r. give r (left_at jobs before t) k) next_same
        ∙ sym (left_step jobs before t k)

    moved_past : (k : ℕ) → jobs.count ≤ k → get_or (less_one b.left next) k 0 ≡ 0
    moved_past k past =
        let fell = give_falls (left_in b) next k in
        omega (arith, less_one_at b.left next k, holds.past k past)

    -- so a tick on it holds what the machine has left a tick on
    pub holds_moved : Holds jobs before (suc t) (moved_on b (less_one b.left next))
    holds_moved =
        record {
          tick = add-one b.tick ∙ ap suc holds.tick;
          left = moved_left;
          past = moved_past;
          kept = kept_on holds.kept;
        }
