-- The verdict *overloaded* and the least t with a margin below zero are one.
-- Assumes nothing.
use mathlib.Core.Path.{◌≡◌, refl, sym}
use mathlib.Core.List.{List}
use Prim.Native.Nat.{ℕ}
use lib.IntN.{ℤ}
use Rattle.model.specs.Task.{Table, ProperTable}
use Rattle.model.specs.Demand.{margin}
use Rattle.model.specs.Verdict.{horizon, overloaded, starts, verdict}
use Rattle.model.specs.VerdictMeaning.{Overloaded}
use Rattle.model.proofs.StartLaws.{starts_sixteen, starts_each, starts_past}
use Rattle.model.proofs.VerdictLaws.{means_only}
use Rattle.desk.specs.OverloadRules.{OverloadedAt}

pub over_at : {table : Table} {t : ℕ} {m : ℤ} {first : List ℕ} → Overloaded horizon table t m first
    → OverloadedAt table t
over_at means =
    record { from = means.from; within = means.within; below = means.below; least = means.least }

pub over_verdict : {table : Table} → ProperTable table → {t : ℕ} → OverloadedAt table t
    → verdict horizon table ≡ overloaded t (margin table t) (starts table t)
over_verdict {table} good {t} over =
    sym (means_only good horizon (overloaded t (margin table t) (starts table t))
    (record {
      from = over.from;
      within = over.within;
      below = over.below;
      least = over.least;
      margin_is = refl;
      sixteen = starts_sixteen good t;
      each = starts_each good t;
      past = starts_past good t;
    }))
