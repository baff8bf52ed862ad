-- The loaded arrays: one number for each job, and 0 past the last.
-- Assumes nothing.
use mathlib.Core.Path.{◌≡◌, ◌∙◌, ap}
use mathlib.Core.Logic.{inl, inr}
use mathlib.Core.Bool.{cond}
use mathlib.Core.List.{List}
use Prim.Native.Nat.{ℕ, ◌≤◌, ◌<◌}
use native.Mathlib.Omega.{arith}
use lib.Dec.{ltb}
use lib.ListN.{length, get_or, get_or-eq_default}
use borrow.Author.Tests.{lt-ltb, le-ltb}
use Rattle.laws.specs.Sums.{tabulate}
use Rattle.laws.proofs.Cases.{lt_or_le}
use Rattle.laws.proofs.TabulateLaws.{tabulate_length, tabulate_at}
use Rattle.requests.specs.Entry.{most_requests}
use Rattle.bench.specs.Loaded.{slots_of}

module _ (count : ℕ) (f : ℕ → ℕ) where
  slot : ℕ → ℕ
  slot k = cond (ltb k count) (f k) 0

  pub slots_length : length (slots_of count f) ≡ most_requests
  unfolding slots_of slot
  slots_length = tabulate_length most_requests slot

  pub slots_at : count ≤ most_requests → (k : ℕ) → k < count → get_or (slots_of count f) k 0 ≡ f k
  unfolding slots_of slot
  slots_at fits k inside = tabulate_at most_requests slot k (omega arith) ∙ rw (lt-ltb k count inside)

  -- an array that is as it was loaded
  pub slots_read : {l : List ℕ} → l ≡ slots_of count f → count ≤ most_requests → (k : ℕ) → k < count
      → get_or l k 0 ≡ f k
  slots_read is_loaded fits k inside = ap (λ l. get_or l k 0) is_loaded ∙ slots_at fits k inside

  pub slots_past : (k : ℕ) → count ≤ k → get_or (slots_of count f) k 0 ≡ 0
  unfolding slots_of slot
  slots_past k past =
      elim (lt_or_le k most_requests) [
        | inl less ↦ tabulate_at most_requests slot k less ∙ rw (le-ltb k count past)
        | inr more ↦ get_or-eq_default (tabulate most_requests slot) 0 (rw slots_length more)
      ]
