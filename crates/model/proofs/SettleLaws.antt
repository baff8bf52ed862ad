-- Where the recurrence settles, over any share: the test of a value read both ways, and the response at the value.
-- Assumes nothing.
use mathlib.Core.Bool.{true, false}
use mathlib.Core.Path.{◌≡◌, sym, ap}
use mathlib.Core.Logic.{inl, inr}
use Prim.Native.Nat.{ℕ, suc, ◌≤◌, ◌<◌}
use native.Mathlib.Omega.{arith}
use native.Mathlib.Decide.{ℕ_discrete}
use borrow.Author.Tests.{lt-ltb, le-ltb}
use Rattle.laws.specs.Search.{Found, at, least_from, place_or}
use Rattle.laws.proofs.Cases.{lt_or_le}
use Rattle.laws.proofs.Tests.{Catches, rule_kept, rule_broken, catches_lt, catches_eq, catches_or}
use Rattle.model.specs.Response.{value, on_time, late, settles, settled_at, response_by}
use Rattle.model.specs.ResponseMeaning.{NeverFalls}
use Rattle.model.proofs.ValueLaws.{value_grows}

module _ (share : ℕ → ℕ) (e d n : ℕ) where
  -- ---- from the value to the test

  -- a value goes on where it is within D and another one follows
  settles_test : Catches (settles share e d n)
      ((value share e n ≤ d) × (value share e (suc n) ≡ value share e n → ⊥))
  unfolding settles
  settles_test =
      catches_or (catches_lt d (value share e n)) (catches_eq (value share e (suc n)) (value share e n))

  pub settles_past : d < value share e n → settles share e d n ≡ true
  settles_past past = rule_broken settles_test (λ goes_on. omega (arith, goes_on.0))

  pub settles_again : value share e (suc n) ≡ value share e n → settles share e d n ≡ true
  settles_again again = rule_broken settles_test (λ goes_on. goes_on.1 again)

  pub settles_not : value share e n ≤ d → value share e n < value share e (suc n) → settles share e d n ≡ false
  settles_not within rises = rule_kept settles_test (within, λ again. omega arith)

  -- ---- and back: what a value that settles has, and what one that does not

  pub repeats_within : settles share e d n ≡ true → value share e n ≤ d → value share e (suc n) ≡ value share e n
  repeats_within settled within =
      elim (ℕ_discrete (value share e (suc n)) (value share e n)) [
        | yes again ↦ again
        | no other ↦ absurd (settles_test.caught settled (within, other))
      ]

  pub goes_within : settles share e d n ≡ false → value share e n ≤ d
  goes_within goes_on = (settles_test.passed goes_on).0

  pub goes_up : NeverFalls share → settles share e d n ≡ false → value share e n < value share e (suc n)
  goes_up falls_never goes_on =
      elim (lt_or_le (value share e n) (value share e (suc n))) [
        | inl less ↦ less
        | inr most ↦ absurd ((settles_test.passed goes_on).1 (omega (arith, value_grows falls_never e n)))
      ]

  -- ---- the response at the value that settles

  pub settled_late : d < value share e n → settled_at share e d n ≡ late (value share e n) n
  unfolding settled_at
  settled_late past = rw (lt-ltb d (value share e n) past)

  pub settled_on_time : value share e n ≤ d → settled_at share e d n ≡ on_time (value share e n) n
  unfolding settled_at
  settled_on_time within = rw (le-ltb d (value share e n) within)

  -- the response is what the search for the first that settles finds
  pub response_at : at n ≡ least_from (settles share e d) (suc (suc d)) 0
      → response_by share e d ≡ settled_at share e d n
  unfolding response_by
  response_at found = ap (λ (f : Found). settled_at share e d (place_or 0 f)) (sym found)
