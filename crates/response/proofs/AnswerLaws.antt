-- The recurrence as it is answered: how large its value is, its start, its turn and its two ends; and from a frame's E
-- up to its D it is the frame's own response.
-- Assumes nothing.
use mathlib.Core.Path.{◌≡◌, sym, ap, ◌∙◌}
use Prim.Native.Nat.{ℕ, ◌+◌, ◌≤◌, ◌<◌}
use native.Mathlib.Omega.{arith}
use Rattle.model.specs.Task.{Table}
use Rattle.model.specs.Response.{higher_share, response_by, response}
use Rattle.model.specs.ResponseMeaning.{NeverFalls}
use Rattle.model.proofs.HigherLaws.{response_is}
use Rattle.sums.specs.Sized.{bound_all}
use Rattle.response.specs.declared.rounds.Response.{Response}
use Rattle.response.specs.declared.rounds.Response.TheVariants.{OnTime, Late}
use Rattle.response.specs.ResponseWritten.{response_of, Recurs, ResponseIs}
use Rattle.response.proofs.RoundLaws.{Rounds, rounds_start, rounds_late, rounds_on_time, rounds_on}

-- v is the value of round n, and so large at the most
pub record Recurring (share : ℕ → ℕ) (start end v n : ℕ) : Type 0 where
  pub rounds : Rounds share start end v n
  pub small : v ≤ start + bound_all end

pub recurring_start : (share : ℕ → ℕ) (start end : ℕ) → Recurring share start end start 0
recurring_start share start end = record { rounds = rounds_start share start end; small = omega arith }

module _ {share : ℕ → ℕ} {start end v n : ℕ} (recurring : Recurring share start end v n) where
  pub recurring_late : end < v → Recurs share start end (Late v n)
  recurring_late past =
      record {
        is = ap response_of (rounds_late recurring.rounds past);
        few = λ value rounds e. let apart : ◌≡◌ {A = ℕ} 0 1 = cc in absurd (omega arith);
        small = recurring.small;
      }

  module _ {taken : ℕ} (taken_is : taken ≡ share v) (within : v ≤ end) where
    pub recurring_on_time : start + taken ≡ v → Recurs share start end (OnTime v n)
    recurring_on_time same =
        record {
          is = ap response_of (rounds_on_time recurring.rounds taken_is within same);
          few = λ value counted e. let same_count : n ≡ counted = cc in omega (arith, recurring.rounds.climbs);
          small = recurring.small;
        }

    pub recurring_on : taken ≤ bound_all v → NeverFalls share → (start + taken ≡ v → ⊥)
        → Recurring share start end (start + taken) (n + 1)
    recurring_on at_most falls_never other =
        record {
          rounds = rounds_on recurring.rounds taken_is within falls_never other;
          small = omega arith;
        }

-- from the frame's E up to its D
pub recurs_response : (table : Table) (k i : ℕ) {start end : ℕ} {r : Response} → start ≡ (table.task k).E i
    → end ≡ (table.task k).D i → Recurs (higher_share table k) start end r → ResponseIs table k i r
recurs_response table k i {start} {end} start_is end_is recurs =
    record { is = recurs.is ∙ ap response_of same; few = λ value rounds e. omega (arith, recurs.few value rounds e) }
  where
    same : response_by (higher_share table k) start end ≡ response table k i
    same = rw (start_is, end_is) (sym (response_is table k i))
