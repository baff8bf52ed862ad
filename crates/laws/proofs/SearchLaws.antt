-- Laws of the search for the least number that passes.
-- Assumes nothing.
use mathlib.Core.Bool.{Bool, true, false}
use mathlib.Core.Path.{◌≡◌, refl, sym, ◌∙◌, ap}
use mathlib.Core.Logic.{inl, inr}
use Prim.Native.Nat.{ℕ, zero, suc, ◌+◌, ◌-◌, ◌≤◌, ◌<◌}
use native.Mathlib.Nat.{le_refl}
use native.Mathlib.Numerals.{add-one}
use native.Mathlib.Omega.{arith}
use Rattle.laws.specs.Search.{Found, at, nowhere, least_from}
use Rattle.laws.proofs.Cases.{lt_or_le}
use Rattle.laws.proofs.Countdown.{all_from, one_less}

-- i is the least of the `many` numbers from `start` on that passes
pub record Least (test : ℕ → Bool) (many start i : ℕ) : Type 0 where
  pub low : start ≤ i
  pub high : i < start + many
  pub passes : test i ≡ true
  pub first : (j : ℕ) → start ≤ j → j < i → test j ≡ false

-- none of them passes
abbrev pub None : (ℕ → Bool) → ℕ → ℕ → Type 0
None test many start = (j : ℕ) → start ≤ j → j < start + many → test j ≡ false

-- what a search may answer
abbrev pub Right : (ℕ → Bool) → ℕ → ℕ → Found → Type 0
Right test many start (at i) = Least test many start i
Right test many start nowhere = None test many start

-- one number more at the front
step_back : (test : ℕ → Bool) (start j : ℕ) → test start ≡ false → start ≤ j → (suc start ≤ j → test j ≡ false)
    → test j ≡ false
step_back test start j e h rest = elim (lt_or_le start j)
    [ inl later ↦ rest later | inr here ↦ ap test (same here) ∙ e ]
  where
    same : j ≤ start → j ≡ start
    same here = omega arith

module _ (test : ℕ → Bool) where
  pub least_hit : (many start : ℕ) → test start ≡ true → least_from test (suc many) start ≡ at start
  unfolding least_from
  least_hit many start e = rw (e, least_from)

  pub least_miss : (many start : ℕ) → test start ≡ false
      → least_from test (suc many) start ≡ least_from test many (suc start)
  unfolding least_from
  least_miss many start e = rw (e, least_from)

  -- ---- the search finds exactly the least, and nothing exactly where there is none

  pub least_is : (many start i : ℕ) → Least test many start i → least_from test many start ≡ at i
  least_is zero start i l = absurd (omega (arith, l.low, l.high))
  least_is (suc many) start i l =
      elim (lt_or_le start i) [
        | inl later ↦ least_miss many start (l.first start (le_refl start) later)
            ∙ least_is many (suc start) i (shorter later)
        | inr here ↦ least_hit many start (ap test (same here) ∙ l.passes) ∙ ap at (same here)
      ]
    where
      same : i ≤ start → start ≡ i
      same here = omega (arith, l.low)

      shorter : start < i → Least test many (suc start) i
      shorter later =
          record {
            low = later;
            high = omega (arith, l.high);
            passes = l.passes;
            first = λ j h k. l.first j (omega arith) k;
          }

  pub none_is : (many start : ℕ) → None test many start → least_from test many start ≡ nowhere
  unfolding least_from
  none_is zero start none = refl
  none_is (suc many) start none =
      least_miss many start (none start (le_refl start) (omega arith))
      ∙ none_is many (suc start) (λ j h k. none j (omega arith) (omega arith))

  -- what was found is right, whichever it is
  pub least_right : (many start : ℕ) → Right test many start (least_from test many start)
  unfolding least_from
  least_right zero start = λ j h k. absurd (omega arith)
  least_right (suc many) start = which (test start) refl (least_right many (suc start))
    where
      longer : (r : Found) → test start ≡ false → Right test many (suc start) r → Right test (suc many) start r
      longer (at i) e l =
          record {
            low = omega (arith, l.low);
            high = omega (arith, l.high);
            passes = l.passes;
            first = λ j h k. step_back test start j e h (λ later. l.first j later k);
          }
      longer nowhere e none = λ j h k. step_back test start j e h (λ later. none j later (omega arith))

      which : (b : Bool) → test start ≡ b → Right test many (suc start) (least_from test many (suc start))
          → Right test (suc many) start (least_from test (suc many) start)
      which true e rest =
          rw (least_hit many start e)
          (record { low = le_refl start; high = omega arith; passes = e; first = λ j h k. absurd (omega arith) })
      which false e rest = rw (least_miss many start e) (longer (least_from test many (suc start)) e rest)

-- ---- a loop that tries i, one after the other: what is left to try gives the whole

pub record Seeking (test : ℕ → Bool) (many start i : ℕ) : Type 0 where
  pub within : i ≤ start + many
  pub rest : least_from test (start + many - i) i ≡ least_from test many start

pub seeking_start : (test : ℕ → Bool) (many start : ℕ) → Seeking test many start start
seeking_start test many start =
    record { within = omega arith; rest = ap (λ (k : ℕ). least_from test k start) (all_from start many) }

module _ {test : ℕ → Bool} {many start i : ℕ} (seeking : Seeking test many start i) where
  pub seeking_hit : i < start + many → test i ≡ true → at i ≡ least_from test many start
  seeking_hit more e =
      sym (ap (λ (k : ℕ). least_from test k i) (one_less (start + many) i more) ∙ least_hit test _ i e)
      ∙ seeking.rest

  pub seeking_on : i < start + many → test i ≡ false → Seeking test many start (i + 1)
  seeking_on more e =
      record {
        within = omega arith;
        rest =
            sym (ap (λ (k : ℕ). least_from test k i) (one_less (start + many) i more) ∙ least_miss test _ i e
            ∙ ap (least_from test (start + many - (i + 1))) (sym (add-one i)))
            ∙ seeking.rest;
      }
