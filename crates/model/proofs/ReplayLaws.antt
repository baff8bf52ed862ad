-- What a replay may answer is one answer only.
-- Assumes nothing.
use mathlib.Core.Path.{◌≡◌, sym, ap}
use Prim.Native.Nat.{ℕ, ◌<◌}
use native.Mathlib.Omega.{arith}
use Rattle.laws.proofs.Cases.{neither_lower}
use Rattle.model.specs.Jobs.{Jobs}
use Rattle.model.specs.Machine.{Order}
use Rattle.model.specs.Replay.{Replayed, missed, all_met, Missed, Met, ReplaySays}

module _ (jobs : Jobs) (before : Order) where
  -- the first miss is at one tick, and at that tick one job is the lowest
  missed_one : (t i u j : ℕ) → Missed jobs before t i → Missed jobs before u j → missed t i ≡ missed u j
  missed_one t i u j one other = cc (same_tick, same_job)
    where
      same_tick : t ≡ u
      same_tick =
          neither_lower t u (λ less. other.first t i less one.misses.late)
          (λ more. one.first u j more other.misses.late)

      same_job : i ≡ j
      same_job =
          neither_lower i j (λ less. other.misses.lowest i less (rw same_tick at one.misses.late))
          (λ more. one.misses.lowest j more (rw (sym same_tick) at other.misses.late))

  -- at the earlier of two such ticks all would be done, and some job not
  not_earlier : (t u : ℕ) → Met jobs before t → Met jobs before u → t < u → ⊥
  not_earlier t u one other less =
      let undone = other.worked t less in
      omega (arith, undone.undone, one.done undone.job undone.inside)

  pub says_one : (x y : Replayed) → ReplaySays jobs before x → ReplaySays jobs before y → x ≡ y
  says_one (missed t i) (missed u j) one other = missed_one t i u j one other
  says_one (missed t i) (all_met u) miss met = absurd (met.on_time t i miss.misses.late)
  says_one (all_met t) (missed u j) met miss = absurd (met.on_time u j miss.misses.late)
  says_one (all_met t) (all_met u) one other =
      ap all_met (neither_lower t u (not_earlier t u one other) (not_earlier u t other one))
