-- Jobs that are there together pass where they ask for no more than the time until they are due. And jobs that pass
-- still pass where each runs for less, since less is due, and wherever their tasks are placed, since what is due knows
-- no task.
-- Assumes nothing.
use mathlib.Core.Bool.{Bool, false, ◌&&◌, and-false}
use mathlib.Core.Path.{◌≡◌}
use mathlib.Core.Logic.{inl, inr}
use Prim.Native.Nat.{ℕ, zero, suc, ◌+◌, ◌≤◌, ◌<◌}
use native.Mathlib.Omega.{arith}
use lib.Dec.{leb}
use borrow.Author.Tests.{lt-leb}
use Rattle.laws.specs.Sums.{sum, only}
use Rattle.laws.proofs.Cases.{lt_or_le}
use Rattle.laws.proofs.GateLaws.{only_most, only_mono}
use Rattle.laws.proofs.SumLaws.{sum_none, sum_mono}
use Rattle.model.specs.Jobs.{Jobs, with_amounts, with_places}
use Rattle.model.specs.Schedule.{due_within}
use Rattle.model.specs.Service.{Passes}

-- all are released at 0 and due at d: an interval of fewer than d ticks asks nothing
module _ (jobs : Jobs) (d : ℕ) (at_0 : (k : ℕ) → jobs.release k ≡ 0) (at_d : (k : ℕ) → jobs.due k ≡ d) where
  too_short : (a t : ℕ) → t < d → (k : ℕ) → (leb a (jobs.release k) && leb (jobs.due k) (a + t)) ≡ false
  too_short zero t less k = rw (at_d k, lt-leb d (0 + t) (omega arith)) (and-false (leb 0 (jobs.release k)))
  too_short (suc a) t less k = rw (at_0 k, lt-leb (suc a) 0 (omega arith))

  module _ (enough : sum jobs.count jobs.amount ≤ d) where
    calm_together : (a t : ℕ) → due_within jobs a (a + t) ≤ t
    unfolding due_within
    calm_together a t =
        let asks : ℕ → Bool = λ k. leb a (jobs.release k) && leb (jobs.due k) (a + t) in
        let due : ℕ → ℕ = λ k. only (asks k) (jobs.amount k) in
        elim (lt_or_le t d) [
          | inl less ↦ omega (arith, sum_none jobs.count due (λ k inside. rw (too_short a t less k)))
          | inr more ↦ omega (
            arith,
            enough,
            sum_mono jobs.count due jobs.amount (λ k inside. only_most (asks k) (jobs.amount k)),
          )
        ]

    pub together_passes : 0 < d → Passes jobs
    together_passes some = record { lasts = λ k inside. omega (arith, at_0 k, at_d k); calm = calm_together }

-- at most as long
module _ (jobs : Jobs) (amount : ℕ → ℕ) (most : (k : ℕ) → k < jobs.count → amount k ≤ jobs.amount k) where
  due_less : (a b : ℕ) → due_within (with_amounts jobs amount) a b ≤ due_within jobs a b
  unfolding due_within
  due_less a b =
      sum_mono jobs.count _ _ λ k inside.
      only_mono (leb a (jobs.release k) && leb (jobs.due k) b) (amount k) (jobs.amount k) (most k inside)

  pub passes_less : Passes jobs → Passes (with_amounts jobs amount)
  passes_less passes =
      record { lasts = passes.lasts; calm = λ a t. omega (arith, due_less a (a + t), passes.calm a t) }

pub passes_placed : (jobs : Jobs) (place : ℕ → ℕ) → Passes jobs → Passes (with_places jobs place)
unfolding due_within
passes_placed jobs place passes = record { lasts = passes.lasts; calm = passes.calm }
