-- A bench whose every tick does what the machine does is the machine with a stop rule: while it runs nothing was late
-- and always something undone, so where it stops it says what document 01 says of the stop, and where each job is due
-- by the last tick it stops by then. By induction over the ticks, for any state and any order.
-- Assumes nothing.
use mathlib.Core.Path.{◌≡◌, sym, subst}
use mathlib.Core.Logic.{inl, inr}
use Prim.Native.Nat.{ℕ, zero, suc, ◌≤◌, ◌<◌}
use native.Mathlib.Omega.{arith}
use native.Mathlib.Nat.{le_refl, le_step}
use Rattle.laws.proofs.Cases.{lt_or_le, lt_or_last}
use Rattle.model.specs.Jobs.{Jobs}
use Rattle.model.specs.Machine.{Order, left_at}
use Rattle.model.specs.Tick.{LowestLate}
use Rattle.model.specs.Replay.{Replayed, missed, all_met, LateAt, UndoneAt, Missed, Met}
use Rattle.model.specs.Stage.{Behind, Turned, late_now, done_now, goes_on, KeepsTo, Stage, runs, stopped, StopsRightly}
use Rattle.model.proofs.MachineLaws.{left_mono}

-- ---- what the machine has behind it

module _ {jobs : Jobs} {before : Order} where
  behind_none : Behind jobs before 0
  behind_none = record { on_time = λ u k less. absurd (omega arith); worked = λ u less. absurd (omega arith) }

  -- one tick more
  behind_more : (t : ℕ) → Behind jobs before t → ((k : ℕ) → LateAt jobs before t k → ⊥) → UndoneAt jobs before t
      → Behind jobs before (suc t)
  behind_more t behind none undone =
      record {
        on_time = λ u k less late.
            elim (lt_or_last u t less) [
              | inl earlier ↦ behind.on_time u k earlier late
              | inr now ↦ none k (subst (λ s. LateAt jobs before s k) now late)
            ];
        worked = λ u less.
            elim (lt_or_last u t less) [
              | inl earlier ↦ behind.worked u earlier
              | inr now ↦ subst (UndoneAt jobs before) (sym now) undone
            ];
      }

  missed_now : (t i : ℕ) → Behind jobs before t → LowestLate jobs t (left_at jobs before t) i → Missed jobs before t i
  missed_now t i behind late = record { misses = late; first = λ u k. behind.on_time u k }

  -- where all is done it stays done, so nothing is late from then on
  met_now : (t : ℕ) → Behind jobs before t → ((k : ℕ) → k < jobs.count → left_at jobs before t k ≡ 0)
      → Met jobs before t
  met_now t behind done =
      record {
        done = done;
        worked = behind.worked;
        on_time = λ u k late.
            elim (lt_or_le u t) [
              | inl earlier ↦ behind.on_time u k earlier late
              | inr later ↦ omega (arith, late.undone, left_mono jobs before t u k later, done k late.inside)
            ];
      }

  -- what was undone at the last tick was late at it
  not_behind : (last : ℕ) → ((k : ℕ) → k < jobs.count → jobs.due k ≤ last) → Behind jobs before (suc last) → ⊥
  not_behind last in_time behind =
      let undone = behind.worked last (le_refl (suc last)) in
      behind.on_time last undone.job (le_refl (suc last))
      (record {
        inside = undone.inside;
        undone = undone.undone;
        over = in_time undone.job undone.inside;
      })

-- ---- the run

module _ {jobs : Jobs} {before : Order} {State : Type 0} {Runs : ℕ → State → Type 0}
    {Stops : State → Replayed → Type 0} where
  turn_stage : (n : ℕ) (next : State) → Behind jobs before n → Turned jobs before Runs Stops n next
      → Stage jobs before Runs Stops (suc n) next
  turn_stage n next behind (late_now i late stops) =
      stopped (missed n i) (le_refl (suc n)) stops (missed_now n i behind late)
  turn_stage n next behind (done_now done stops) = stopped (all_met n) (le_refl (suc n)) stops (met_now n behind done)
  turn_stage n next behind (goes_on none undone holds) = runs holds (behind_more n behind none undone)

  module _ {last : ℕ} {tick : State → State} (keeps : KeepsTo jobs before Runs Stops last tick) where
    tick_stage : (n : ℕ) (b : State) → n ≤ last → Stage jobs before Runs Stops n b
        → Stage jobs before Runs Stops (suc n) (tick b)
    tick_stage n b soon (runs holds behind) = turn_stage n (tick b) behind (keeps.turns n b soon holds)
    tick_stage n b soon (stopped answer less stops says) =
        rw (keeps.stands b answer stops) (stopped answer (le_step less) stops says)

    -- of the states after each number of ticks
    pub run_stage : (after : ℕ → State) → Runs 0 (after 0) → ((n : ℕ) → after (suc n) ≡ tick (after n))
        → (n : ℕ) → n ≤ suc last → Stage jobs before Runs Stops n (after n)
    run_stage after start more zero soon = runs start behind_none
    run_stage after start more (suc n) soon =
        rw (more n) (tick_stage n (after n) (omega arith) (run_stage after start more n (omega arith)))

  -- where each job is due by the last tick
  pub stage_ends : (last : ℕ) → ((k : ℕ) → k < jobs.count → jobs.due k ≤ last) → (b : State)
      → Stage jobs before Runs Stops (suc last) b → StopsRightly jobs before Stops last b
  stage_ends last in_time b (runs holds behind) = absurd (not_behind last in_time behind)
  stage_ends last in_time b (stopped answer less stops says) =
      record { answer = answer; soon = omega arith; stops = stops; says = says }
