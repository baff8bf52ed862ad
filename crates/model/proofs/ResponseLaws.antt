-- The response over any share says what the document says, and whatever says that is the response.
-- Assumes nothing.
use mathlib.Core.Bool.{true, false}
use mathlib.Core.Path.{◌≡◌, refl, sym, ◌∙◌, ap}
use mathlib.Core.Logic.{inl, inr}
use Prim.Native.Nat.{ℕ, zero, suc, ◌-◌, ◌≤◌, ◌<◌}
use native.Mathlib.Omega.{arith}
use Rattle.laws.specs.Search.{Found, at, nowhere, least_from, place_or}
use Rattle.laws.proofs.Cases.{lt_or_le}
use Rattle.laws.proofs.SearchLaws.{Least, Right, least_right, least_is}
use Rattle.model.specs.Response.{value, Response, on_time, late, settles, settled_at, response_by}
use Rattle.model.specs.ResponseMeaning.{NeverFalls, RisesTo, OnTime, LateWith, ResponseSays}
use Rattle.model.proofs.ValueLaws.{value_mono, value_stays, value_climbs}
use Rattle.model.proofs.SettleLaws.{settles_past, settles_again, settles_not, repeats_within, goes_within, goes_up, settled_late, settled_on_time, response_at}

-- ---- what the response says

-- a value passes D soon: the one before is within it, and is at least E and its number
late_few : (share : ℕ → ℕ) (e d n : ℕ) → RisesTo share e n → ((m : ℕ) → m < n → value share e m ≤ d)
    → n ≤ suc d - e
late_few share e d zero rises within = omega arith
late_few share e d (suc n) rises within =
    omega (arith, value_climbs share e n (λ m less. rises m (omega arith)), within n (omega arith))

module _ {share : ℕ → ℕ} (falls_never : NeverFalls share) (e d : ℕ) where
  -- the first value that settles
  module _ (n : ℕ) (none : (m : ℕ) → m < n → settles share e d m ≡ false) where
    rises : RisesTo share e n
    rises m less = goes_up share e d m falls_never (none m less)

    first_within : (m : ℕ) → m < n → value share e m ≤ d
    first_within m less = goes_within share e d m (none m less)

    says_late : d < value share e n → LateWith share e d (value share e n) n
    says_late past =
        record {
          is = refl;
          passes = past;
          first = first_within;
          rises = rises;
        }

    says_on_time : value share e n ≤ d → settles share e d n ≡ true → OnTime share e d (value share e n) n
    says_on_time within settled =
        record {
          is = refl;
          repeats = value_stays share e n (repeats_within share e d n settled within);
          within = within;
          first = λ m less. omega (arith, rises m less, value_mono falls_never e (suc m) n less);
          rises = rises;
          few = omega (arith, value_climbs share e n rises);
        }

    says_settled : settles share e d n ≡ true → ResponseSays share e d (settled_at share e d n)
    says_settled settled =
        elim (lt_or_le d (value share e n)) [
          | inl past ↦ rw (settled_late share e d n past) (says_late past)
          | inr within ↦ rw (settled_on_time share e d n within) (says_on_time within settled)
        ]

  -- something is found: else value d + 1 would be within D, after d + 1 rises
  says : (f : Found) → Right (settles share e d) (suc (suc d)) 0 f
      → ResponseSays share e d (settled_at share e d (place_or 0 f))
  says (at n) l = says_settled n (λ m less. l.first m (omega arith) less) l.passes
  says nowhere none =
      absurd (omega (
        arith,
        value_climbs share e (suc d) (rises (suc d) (λ m less. none m (omega arith) (omega arith))),
        goes_within share e d (suc d) (none (suc d) (omega arith) (omega arith)),
      ))

  pub response_says : ResponseSays share e d (response_by share e d)
  unfolding response_by
  response_says =
      says (least_from (settles share e d) (suc (suc d)) 0) (least_right (settles share e d) (suc (suc d)) 0)

-- ---- and only the response says it

module _ (share : ℕ → ℕ) (e d : ℕ) where
  found_at : (n : ℕ) → n ≤ suc d → settles share e d n ≡ true
      → ((m : ℕ) → m < n → value share e m ≤ d) → RisesTo share e n → response_by share e d ≡ settled_at share e d n
  found_at n few settled within rises =
      response_at share e d n (sym (least_is (settles share e d) (suc (suc d)) 0 n first))
    where
      first : Least (settles share e d) (suc (suc d)) 0 n
      first =
          record {
            low = omega arith;
            high = omega arith;
            passes = settled;
            first = λ m low less. settles_not share e d m (within m less) (rises m less);
          }

  pub says_only : (r : Response) → ResponseSays share e d r → r ≡ response_by share e d
  says_only (late v n) l =
      let past : d < value share e n = omega (arith, l.is, l.passes) in
      let few : n ≤ suc d = omega (arith, late_few share e d n l.rises l.first) in
      ap (λ (w : ℕ). late w n) l.is
      ∙ sym (found_at n few (settles_past share e d n past) l.first l.rises ∙ settled_late share e d n past)
  says_only (on_time v n) t =
      let within : value share e n ≤ d = omega (arith, t.is, t.within) in
      let again : value share e (suc n) ≡ value share e n = t.repeats (suc n) (omega arith) ∙ t.is in
      ap (λ (w : ℕ). on_time w n) t.is
      ∙ sym (found_at n (omega (arith, t.few)) (settles_again share e d n again)
      (λ m less. omega (arith, t.first m less, t.within)) t.rises
      ∙ settled_on_time share e d n within)
