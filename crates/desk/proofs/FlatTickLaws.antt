-- A tick of a flat state: one that has stopped or is past the last tick stays, any other is the bench's tick.
-- Assumes nothing.
use mathlib.Core.Path.{◌≡◌, sym, ap, ap₂, ◌∙◌}
use mathlib.Core.Bool.{Bool, cond}
use Prim.Native.Nat.{◌≤◌, ◌<◌}
use lib.Dec.{ltb}
use borrow.Author.Tests.{lt-ltb, le-ltb, eq-eqb, ne_eqb}
use Rattle.model.specs.Replay.{last_tick}
use Rattle.bench.specs.declared.state.Bench.{Bench}
use Rattle.bench.specs.Rule.{tick_of}
use Rattle.desk.specs.declared.answers.State.{State}
use Rattle.desk.specs.FlatBench.{flat_bench, running, flat_tick}

module _ (s : State) where
  -- by whether it runs, and whether the last tick is past
  abbrev by_tests : Bool → Bool → State
  by_tests runs past = cond runs (cond past s (flat_bench (tick_of (running s)))) s

  pub flat_tick_stopped : (s.outcome ≡ 0 → ⊥) → s ≡ flat_tick s
  unfolding flat_tick
  flat_tick_stopped stopped =
      sym (ap (λ (b : Bool). by_tests b (ltb last_tick s.tick)) (ne_eqb s.outcome 0 stopped))

  pub flat_tick_past : s.outcome ≡ 0 → last_tick < s.tick → s ≡ flat_tick s
  unfolding flat_tick
  flat_tick_past runs past =
      sym (ap₂ by_tests (eq-eqb s.outcome 0 runs) (lt-ltb last_tick s.tick past))

  pub flat_tick_running : {b next : Bench} {r : State} → s.outcome ≡ 0 → s.tick ≤ last_tick → b ≡ running s
      → next ≡ tick_of b → r ≡ flat_bench next → r ≡ flat_tick s
  unfolding flat_tick
  flat_tick_running runs within is_bench is_next is =
      is ∙ ap flat_bench (is_next ∙ ap tick_of is_bench)
      ∙ sym (ap₂ by_tests (eq-eqb s.outcome 0 runs) (le-ltb last_tick s.tick within))
