-- Whatever state the bench is in, a tick does what document 01 says: one unit at most, and only to an arrived,
-- unfinished slot that none such precedes; the miss named is the lowest late slot. No state need have been loaded.
-- Assumes nothing.
use mathlib.Core.Path.{◌≡◌, refl}
use mathlib.Core.Logic.{inl, inr}
use Prim.Native.Nat.{ℕ}
use native.Mathlib.Omega.{arith}
use Rattle.laws.specs.Search.{Found, at, nowhere}
use Rattle.laws.proofs.Cases.{lt_or_le}
use Rattle.model.specs.Replay.{last_tick}
use Rattle.model.proofs.MachineLaws.{unit_as, unit_changed}
use Rattle.bench.specs.declared.state.Bench.{Bench}
use Rattle.bench.specs.declared.state.Outcome.{Outcome}
use Rattle.bench.specs.declared.state.Outcome.TheVariants.{Running, Missed, AllMet}
use Rattle.bench.specs.Rule.{first_late, first_left, next_in, less_one, moved_on, tick_of}
use Rattle.bench.specs.Ticked.{left_in, Going, NoneLate, SomeLeft, Ticked, stays, stops, meets, moves, Spends, Kept}
use Rattle.bench.proofs.TickLaws.{missed_stopped, met_stopped, tick_stopped, tick_past, tick_missed, tick_met, tick_moves}
use Rattle.bench.proofs.SlotLaws.{first_late_at, first_late_none, first_left_at, first_left_none, next_unit, less_one_at, kept_same, kept_on}

module _ (b : Bench) where
  moved : Going b → NoneLate b → SomeLeft b → Ticked b (moved_on b (less_one b.left (next_in b)))
  moved going none some =
      moves going none some (unit_as (less_one_at b.left (next_in b)) (next_unit b))

  going_right : Going b → (late left : Found) → first_late b ≡ late → first_left b ≡ left → Ticked b (tick_of b)
  going_right going (at i) left is_late is_left =
      rw (tick_missed going is_late) (stops i going (first_late_at b i is_late))
  going_right going nowhere nowhere is_late is_left =
      rw (tick_met going is_late is_left)
      (meets going (first_late_none b is_late) (first_left_none b is_left))
  going_right going nowhere (at k) is_late is_left =
      rw (tick_moves going is_late is_left)
      (moved going (first_late_none b is_late) (first_left_at b k is_left))

  pub tick_right : Ticked b (tick_of b)
  tick_right = which b.outcome refl
    where
      stopped : (b.outcome ≡ Running → ⊥) → Ticked b (tick_of b)
      stopped not_running = rw (tick_stopped b not_running) (stays (λ going. not_running going.running))

      goes : Going b → Ticked b (tick_of b)
      goes going = going_right going (first_late b) (first_left b) refl refl

      which : (o : Outcome) → b.outcome ≡ o → Ticked b (tick_of b)
      which Running running =
          elim (lt_or_le last_tick b.tick) [
            | inl past ↦ rw (tick_past b past) (stays (λ going. omega (arith, going.in_time)))
            | inr soon ↦ goes (record { running = running; in_time = soon })
          ]
      which (Missed i) missed = stopped (missed_stopped missed)
      which AllMet met = stopped (met_stopped met)

-- ---- what follows from that

stands : (b next : Bench) → Ticked b next → (Going b → ⊥) → next ≡ b
stands b next (stays over) still = refl
stands b next (stops i going misses) still = absurd (still going)
stands b next (meets going none done) still = absurd (still going)
stands b next (moves going none some unit) still = absurd (still going)

keeps : (b next : Bench) → Ticked b next → Kept b next
keeps b next (stays over) = kept_same
keeps b next (stops i going misses) = kept_on kept_same
keeps b next (meets going none done) = kept_on kept_same
keeps b next (moves going none some unit) = kept_on kept_same

spends : (b next : Bench) → Ticked b next → (k : ℕ) → (left_in next k ≡ left_in b k → ⊥) → Spends b next k
spends b next (stays over) k changed = absurd (changed refl)
spends b next (stops i going misses) k changed = absurd (changed refl)
spends b next (meets going none done) k changed = absurd (changed refl)
spends b next (moves going none some unit) k changed = unit_changed unit k changed

module _ (b : Bench) where
  -- "A stopped bench .. comes back from a tick unchanged, and so does a state past that last tick."
  pub tick_stands : (Going b → ⊥) → tick_of b ≡ b
  tick_stands = stands b (tick_of b) (tick_right b)

  pub tick_keeps : Kept b (tick_of b)
  tick_keeps = keeps b (tick_of b) (tick_right b)

  -- a slot whose amount changed got the one unit of the tick, and had the right to it
  pub tick_spends : (k : ℕ) → (left_in (tick_of b) k ≡ left_in b k → ⊥) → Spends b (tick_of b) k
  tick_spends = spends b (tick_of b) (tick_right b)
