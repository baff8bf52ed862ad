-- The recurrence walked value by value, over any share that never falls: what the loop keeps, and a law for its start,
-- its turn and its two ends.
-- Assumes nothing.
use mathlib.Core.Path.{◌≡◌, sym, ◌∙◌, ap}
use Prim.Native.Nat.{ℕ, suc, ◌+◌, ◌≤◌, ◌<◌}
use native.Mathlib.Numerals.{add-one}
use native.Mathlib.Omega.{arith}
use Rattle.laws.proofs.SearchLaws.{Seeking, seeking_start, seeking_hit, seeking_on}
use Rattle.model.specs.Response.{value, on_time, late, settles, response_by}
use Rattle.model.specs.ResponseMeaning.{NeverFalls}
use Rattle.model.proofs.ValueLaws.{value_first, value_next, value_grows}
use Rattle.model.proofs.SettleLaws.{settles_past, settles_again, settles_not, settled_late, settled_on_time, response_at}

-- v is value n, and no value before it passes D or is repeated
pub record Rounds (share : ℕ → ℕ) (e d v n : ℕ) : Type 0 where
  pub is : v ≡ value share e n
  pub climbs : e + n ≤ v
  pub few : n ≤ suc d
  pub seeking : Seeking (settles share e d) (suc (suc d)) 0 n

pub rounds_start : (share : ℕ → ℕ) (e d : ℕ) → Rounds share e d e 0
rounds_start share e d =
    record {
      is = sym (value_first share e);
      climbs = omega arith;
      few = omega arith;
      seeking = seeking_start (settles share e d) (suc (suc d)) 0;
    }

module _ {share : ℕ → ℕ} {e d v n : ℕ} (rounds : Rounds share e d v n) where
  -- a value that passes D
  pub rounds_late : d < v → late v n ≡ response_by share e d
  rounds_late past =
      let over : d < value share e n = omega (arith, rounds.is) in
      let found = seeking_hit rounds.seeking (omega (arith, rounds.few)) (settles_past share e d n over) in
      ap (λ (x : ℕ). late x n) rounds.is
      ∙ sym (response_at share e d n found ∙ settled_late share e d n over)

  module _ {taken : ℕ} (taken_is : taken ≡ share v) (within : v ≤ d) where
    next_value : e + taken ≡ value share e (suc n)
    next_value = ap (λ (x : ℕ). e + x) (taken_is ∙ ap share rounds.is) ∙ sym (value_next share e n)

    inside : value share e n ≤ d
    inside = omega (arith, rounds.is)

    -- a value that is repeated
    pub rounds_on_time : e + taken ≡ v → on_time v n ≡ response_by share e d
    rounds_on_time same =
        let again = settles_again share e d n (sym next_value ∙ same ∙ rounds.is) in
        let found = seeking_hit rounds.seeking (omega (arith, rounds.few)) again in
        ap (λ (x : ℕ). on_time x n) rounds.is
        ∙ sym (response_at share e d n found ∙ settled_on_time share e d n inside)

    -- any other rises
    module _ (falls_never : NeverFalls share) (other : e + taken ≡ v → ⊥) where
      pub rounds_rise : v < e + taken
      rounds_rise = omega (arith, other, rounds.is, next_value, value_grows falls_never e n)

      pub rounds_on : Rounds share e d (e + taken) (n + 1)
      rounds_on =
          let goes_on = settles_not share e d n inside (omega (arith, rounds_rise, rounds.is, next_value)) in
          record {
            is = next_value ∙ ap (value share e) (sym (add-one n));
            climbs = omega (arith, rounds.climbs, rounds_rise);
            few = omega (arith, rounds.climbs);
            seeking = seeking_on rounds.seeking (omega (arith, rounds.few)) goes_on;
          }
