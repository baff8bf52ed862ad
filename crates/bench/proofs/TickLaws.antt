-- The tick in laws, one for each of the rule's sentences, and the run: document 01, "The replay bench".
-- Assumes nothing.
use mathlib.Core.Bool.{cond}
use mathlib.Core.Path.{◌≡◌, refl, ◌∙◌, ap}
use Prim.Native.Nat.{ℕ, zero, suc, ◌<◌}
use native.Mathlib.Omega.{arith}
use lib.Dec.{ltb}
use borrow.Author.Tests.{lt-ltb, le-ltb}
use Rattle.laws.specs.Search.{at, nowhere}
use Rattle.model.specs.Replay.{last_tick}
use Rattle.bench.specs.declared.state.Bench.{Bench}
use Rattle.bench.specs.declared.state.Outcome.{Outcome}
use Rattle.bench.specs.declared.state.Outcome.TheVariants.{Running, Missed, AllMet}
use Rattle.bench.specs.Rule.{first_late, first_left, next_in, with_outcome, moved_on, less_one, turned, while_running, tick_of, run_of}
use Rattle.bench.specs.Ticked.{Going}

-- ---- the tick of a bench that is not stopped

module _ {b : Bench} (going : Going b) where
  goes : tick_of b ≡ turned b (first_late b) (first_left b)
  unfolding tick_of
  goes = rw (going.running, le-ltb _ _ going.in_time) refl

  -- "first any request with work left and deadline at most T is a miss; the bench stops and names the one with the
  -- lowest record index"
  pub tick_missed : {i : ℕ} → first_late b ≡ at i → tick_of b ≡ with_outcome b (Missed i)
  tick_missed late = goes ∙ ap (λ found. turned b found (first_left b)) late

  module _ (on_time : first_late b ≡ nowhere) where
    on : tick_of b ≡ turned b nowhere (first_left b)
    on = goes ∙ ap (λ found. turned b found (first_left b)) on_time

    pub tick_met : first_left b ≡ nowhere → tick_of b ≡ with_outcome b AllMet
    tick_met done = on ∙ ap (turned b nowhere) done

    -- "Otherwise one unit goes to ..; with none, the tick is idle"
    pub tick_moves : {k : ℕ} → first_left b ≡ at k → tick_of b ≡ moved_on b (less_one b.left (next_in b))
    tick_moves undone = on ∙ ap (turned b nowhere) undone

-- ---- a bench that has stopped is not running

pub missed_stopped : {outcome : Outcome} {i : ℕ} → outcome ≡ Missed i → outcome ≡ Running → ⊥
missed_stopped missed running = let z : ◌≡◌ {A = ℕ} 0 1 = cc in omega arith

pub met_stopped : {outcome : Outcome} → outcome ≡ AllMet → outcome ≡ Running → ⊥
met_stopped met running = let z : ◌≡◌ {A = ℕ} 0 1 = cc in omega arith

-- ---- "A stopped bench, after a miss or all met, comes back from a tick unchanged, and so does a state past that last
-- tick."

module _ (b : Bench) where
  pub tick_stopped : (b.outcome ≡ Running → ⊥) → tick_of b ≡ b
  unfolding tick_of
  tick_stopped stopped = which b.outcome refl
    where
      next : Bench
      next = cond (ltb last_tick b.tick) b (turned b (first_late b) (first_left b))

      which : (outcome : Outcome) → b.outcome ≡ outcome → while_running outcome next b ≡ b
      which Running running = absurd (stopped running)
      which (Missed i) missed = refl
      which AllMet met = refl

  pub tick_past : last_tick < b.tick → tick_of b ≡ b
  unfolding tick_of
  tick_past past = rw (lt-ltb _ _ past) (which b.outcome)
    where
      which : (outcome : Outcome) → while_running outcome b b ≡ b
      which Running = refl
      which (Missed i) = refl
      which AllMet = refl

-- ---- n ticks on

pub run_none : (b : Bench) → run_of 0 b ≡ b
unfolding run_of
run_none b = refl

pub run_suc : (n : ℕ) (b : Bench) → run_of (suc n) b ≡ run_of n (tick_of b)
unfolding run_of
run_suc n b = refl

pub run_more : (n : ℕ) (b : Bench) → run_of (suc n) b ≡ tick_of (run_of n b)
unfolding run_of
run_more zero b = refl
run_more (suc n) b = run_more n (tick_of b)

-- "comes back from a tick unchanged", so from any number of them
pub run_kept : (n : ℕ) (b : Bench) → tick_of b ≡ b → run_of n b ≡ b
unfolding run_of
run_kept zero b kept = refl
run_kept (suc n) b kept = ap (run_of n) kept ∙ run_kept n b kept
