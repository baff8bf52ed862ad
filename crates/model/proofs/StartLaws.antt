-- The start frames: each is the lowest that gives its task's demand, and there is one such list only.
-- Assumes nothing.
use mathlib.Core.Path.{◌≡◌, sym, ◌∙◌, subst}
use mathlib.Core.List.{List}
use mathlib.Core.Logic.{inl, inr}
use Prim.Native.Nat.{ℕ, ◌≤◌, ◌<◌}
use native.Mathlib.Omega.{arith}
use lib.ListN.{length, get_or}
use lib.Seq.{ext_get_or}
use borrow.Author.Tests.{lt-ltb, le-ltb}
use Rattle.laws.proofs.Cases.{lt_or_le}
use Rattle.laws.proofs.TabulateLaws.{tabulate_length, tabulate_at}
use Rattle.laws.proofs.PeakLaws.{Peaked, peaked_lowest, peak_of}
use Rattle.model.specs.Task.{Task, Table, Proper, ProperTable}
use Rattle.model.specs.Demand.{counted, lowest}
use Rattle.model.specs.Verdict.{start, start_in, starts}
use Rattle.model.specs.VerdictMeaning.{StartsAt}
use Rattle.model.proofs.DemandLaws.{demand_most}

-- what a loop over the starts finds is the lowest
pub lowest_is : (task : Task) (reach : ℕ → ℕ) (t : ℕ) {sum place : ℕ}
    → Peaked (counted task reach t) task.count sum place → place ≡ lowest task reach t
unfolding lowest
lowest_is task reach t peaked = peaked_lowest peaked

module _ {task : Task} (proper : Proper task) (t : ℕ) where
  pub start_right : StartsAt task t (start task t)
  start_right =
      let peak = peak_of (counted task task.D t) task.count in
      let whole = demand_most task t in
      subst (StartsAt task t) (lowest_is task task.D t peak.1)
      (record {
        inside = peak.1.below proper.some;
        gives = omega (arith, whole, peak.1.has proper.some);
        lowest = λ i less. omega (arith, whole, peak.1.lowest i less);
      })

  start_only : (a b : ℕ) → StartsAt task t a → StartsAt task t b → a ≡ b
  start_only a b x y =
      elim (lt_or_le a b) [
        | inl less ↦ absurd (omega (arith, x.gives, y.lowest a less))
        | inr more ↦ elim (lt_or_le b a)
            [ inl less ↦ absurd (omega (arith, y.gives, x.lowest b less)) | inr same ↦ omega arith ]
      ]

  pub start_is : (s : ℕ) → StartsAt task t s → s ≡ start task t
  start_is s x = start_only s (start task t) x start_right

module _ {table : Table} (good : ProperTable table) (t : ℕ) where
  pub starts_sixteen : length (starts table t) ≡ 16
  unfolding starts
  starts_sixteen = tabulate_length 16 (start_in table t)

  pub starts_at : (k : ℕ) → k < 16 → get_or (starts table t) k 0 ≡ start_in table t k
  unfolding starts
  starts_at k h = tabulate_at 16 (start_in table t) k h

  pub starts_inside : (k : ℕ) → k < 16 → k < table.tasks → get_or (starts table t) k 0 ≡ start (table.task k) t
  starts_inside k h inside = starts_at k h ∙ rw (lt-ltb k table.tasks inside)

  pub starts_past : (k : ℕ) → k < 16 → table.tasks ≤ k → get_or (starts table t) k 0 ≡ 0
  starts_past k h past = starts_at k h ∙ rw (le-ltb k table.tasks past)

  pub starts_each : (k : ℕ) → k < 16 → k < table.tasks → StartsAt (table.task k) t (get_or (starts table t) k 0)
  starts_each k h inside = rw (starts_inside k h inside) (start_right (good.proper k inside) t)

  -- a list of sixteen that has these properties is the starts
  pub starts_only : (l : List ℕ) → length l ≡ 16
      → ((k : ℕ) → k < 16 → k < table.tasks → StartsAt (table.task k) t (get_or l k 0))
      → ((k : ℕ) → k < 16 → table.tasks ≤ k → get_or l k 0 ≡ 0) → l ≡ starts table t
  starts_only l sixteen each past =
      ext_get_or 0 l (starts table t) (sixteen ∙ sym starts_sixteen) (λ k h. same k (omega arith))
    where
      same : (k : ℕ) → k < 16 → get_or l k 0 ≡ get_or (starts table t) k 0
      same k h =
          elim (lt_or_le k table.tasks) [
            | inl inside ↦ start_is (good.proper k inside) t (get_or l k 0) (each k h inside)
                ∙ sym (starts_inside k h inside)
            | inr out ↦ past k h out ∙ sym (starts_past k h out)
          ]
