-- What the overload list takes from the verdict `overloaded`: its t is in range and asks more than there is time for,
-- and its start frames are those of the definition.
-- Assumes nothing.
use mathlib.Core.Bool.{true≢false}
use mathlib.Core.Path.{◌≡◌, sym, ◌∙◌, subst}
use mathlib.Core.List.{List}
use mathlib.Core.Logic.{inl, inr}
use Prim.Native.Nat.{ℕ, ◌≤◌, ◌<◌}
use lib.IntN.{ℤ}
use Rattle.laws.proofs.Cases.{lt_or_le}
use Rattle.model.specs.Task.{Table, ProperTable}
use Rattle.model.specs.Demand.{all_demands}
use Rattle.model.specs.Verdict.{overloaded, starts, verdict}
use Rattle.model.specs.VerdictMeaning.{Overloaded, Means}
use Rattle.model.proofs.ClosingLaws.{overloads_no, is_below}
use Rattle.model.proofs.StartLaws.{starts_only}
use Rattle.model.proofs.VerdictLaws.{verdict_means}

pub record Over (limit : ℕ) (table : Table) (t : ℕ) (first : List ℕ) : Type 0 where
  pub within : t ≤ limit
  pub over : t < all_demands table t
  pub starts_are : first ≡ starts table t

pub verdict_over : {table : Table} → ProperTable table → {limit t : ℕ} {m : ℤ} {first : List ℕ}
    → verdict limit table ≡ overloaded t m first → Over limit table t first
verdict_over {table} good {limit} {t} {m} {first} is =
    record {
      within = says.within;
      over =
          elim (lt_or_le t (all_demands table t)) [
            | inl over ↦ over
            | inr calm ↦ absurd (true≢false (sym (is_below table t says.below) ∙ overloads_no table t calm))
          ];
      starts_are = starts_only good t first says.sixteen says.each says.past;
    }
  where
    says : Overloaded limit table t m first
    says = subst (Means limit table) is (verdict_means good limit)
