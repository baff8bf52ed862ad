-- A question that is asked of a table is refused exactly by its order, where each test of the order is right.
-- Assumes nothing.
use Prim.Native.Nat.{ℕ}
use mathlib.Core.Path.{◌≡◌, subst, sym, ◌∙◌}
use mathlib.Core.List.{List}
use mathlib.Core.Logic.{inl, inr}
use native.Mathlib.Omega.{arith}
use Rattle.laws.specs.Ladder.{climb, Keeps}
use Rattle.laws.proofs.LadderLaws.{Caught, climb_kept, climb_broken, keeps_or_breaks}
use Rattle.model.specs.Answer.{Answer, answered, refused}
use Rattle.model.specs.Task.{Table}
use Rattle.table.specs.TableOf.{table_of}
use Rattle.table.specs.WellFormed.{WellFormed}
use Rattle.desk.specs.Orders.{TestOrder}
use Rattle.desk.specs.Questions.{on_order}
use Rattle.promise.specs.Given.{Given, Exactly}
use Rattle.promise.proofs.TableLaws.{table_refused, table_asked, table_told}
use Rattle.promise.proofs.ExactLaws.{exactly, GivenOnly}

module _ {A : Type 0} (s : List ℕ) (order : TestOrder) (ask : Table → A)
    (right : WellFormed s → Caught order s s) where
  by_order : Table → Answer A
  by_order table = climb order refused s (answered (ask table))

  -- from the bytes to the answer
  pub order_answered : WellFormed s → Keeps order s → on_order s order ask ≡ answered (ask (table_of s))
  unfolding by_order
  order_answered well keeps =
      table_asked s by_order well ∙ climb_kept refused s s (answered (ask (table_of s))) order (right well) keeps

  refuses : (number index : ℕ) → Given s order number index → on_order s order ask ≡ refused number index
  unfolding by_order
  refuses number index (inl bad) = table_refused s by_order bad
  refuses number index (inr own) =
      table_asked s by_order own.table_good
      ∙ climb_broken refused s s (answered (ask (table_of s))) order number index (right own.table_good)
      own.breaks

  -- and back: of an answered question the bytes are a table that keeps the order
  pub order_kept : {value : A} → on_order s order ask ≡ answered value
      → WellFormed s × (value ≡ ask (table_of s)) × Keeps order s
  unfolding by_order
  order_kept {value} =
      table_told s by_order (λ said. said ≡ answered value → WellFormed s × (value ≡ ask (table_of s)) × Keeps order s)
      (λ number index bad is. let apart : ◌≡◌ {A = ℕ} 0 1 = cc in absurd (omega arith)) own
    where
      own : (well : WellFormed s) → by_order (table_of s) ≡ answered value
          → WellFormed s × (value ≡ ask (table_of s)) × Keeps order s
      own well is =
          let answer = answered (ask (table_of s)) in
          elim (keeps_or_breaks s s order (right well)) [
            | inl keeps ↦
                let same = climb_kept refused s s answer order (right well) keeps in
                let value_is : value ≡ ask (table_of s) = cc in (well, value_is, keeps)
            | inr (number, index, breaks) ↦
                let refuses = climb_broken refused s s answer order number index (right well) breaks in
                let apart : ◌≡◌ {A = ℕ} 0 1 = cc in absurd (omega arith)
          ]

  told : GivenOnly (Given s order) (on_order s order ask)
  unfolding by_order
  told = table_told s by_order (GivenOnly (Given s order)) (λ number index bad. inl bad) own
    where
      own : WellFormed s → GivenOnly (Given s order) (by_order (table_of s))
      own well =
          let answer = answered (ask (table_of s)) in
          elim (keeps_or_breaks s s order (right well)) [
            | inl keeps ↦
                subst (GivenOnly (Given s order)) (sym (climb_kept refused s s answer order (right well) keeps)) tt
            | inr (number, index, breaks) ↦
                subst (GivenOnly (Given s order))
                (sym (climb_broken refused s s answer order number index (right well) breaks))
                (inr (record { table_good = well; breaks = breaks }))
          ]

  pub order_exact : Exactly (Given s order) (on_order s order ask)
  order_exact = exactly (GivenOnly (Given s order)) refuses told
