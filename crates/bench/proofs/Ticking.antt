-- The loop of `run`: the ticks that are left give the whole run.
-- Assumes nothing.
use mathlib.Core.Path.{◌≡◌, sym, ◌∙◌, ap}
use Prim.Native.Nat.{ℕ, suc, ◌+◌, ◌-◌, ◌≤◌, ◌<◌}
use native.Mathlib.Omega.{arith}
use Rattle.laws.proofs.Countdown.{all_left, one_less, none_left}
use Rattle.model.specs.Replay.{last_tick}
use Rattle.bench.specs.declared.state.Bench.{Bench}
use Rattle.bench.specs.Rule.{tick_of, run_of}
use Rattle.bench.specs.Loaded.{run_whole}
use Rattle.bench.proofs.TickLaws.{run_none, run_suc, run_kept}

-- n ticks after `start` the state is b
pub record Ticking (start b : Bench) (n : ℕ) : Type 0 where
  pub within : n ≤ suc last_tick
  pub rest : run_of (suc last_tick - n) b ≡ run_whole start

pub ticking_start : (b : Bench) → Ticking b b 0
unfolding run_whole
ticking_start b = record { within = omega arith; rest = ap (λ (k : ℕ). run_of k b) (all_left (suc last_tick)) }

module _ {start b : Bench} {n : ℕ} (ticking : Ticking start b n) where
  pub ticking_stop : tick_of b ≡ b → b ≡ run_whole start
  ticking_stop kept = sym (run_kept _ b kept) ∙ ticking.rest

  pub ticking_on : {r : Bench} → n ≤ last_tick → r ≡ tick_of b → Ticking start r (n + 1)
  ticking_on {r} more ticked =
      record {
        within = omega arith;
        rest =
            ap (run_of (suc last_tick - (n + 1))) ticked
            ∙ sym (ap (λ (k : ℕ). run_of k b) (one_less (suc last_tick) n (omega arith)) ∙ run_suc _ b)
            ∙ ticking.rest;
      }

  pub ticking_end : last_tick < n → b ≡ run_whole start
  ticking_end past =
      sym (ap (λ (k : ℕ). run_of k b) (none_left (suc last_tick) n past) ∙ run_none b) ∙ ticking.rest
