-- How a question is shown to be refused exactly and by numbers of the document's table, answered by the definitions
-- where it is not refused, with nothing of its answer lost: by its order, or by the rules of lists, and by its form.
-- Assumes nothing.
use mathlib.Core.Path.{◌≡◌, ap, ◌∙◌}
use mathlib.Core.Bool.{true}
use mathlib.Core.List.{List}
use Prim.Native.Nat.{ℕ}
use Rattle.laws.specs.Ladder.{all_numbers}
use Rattle.laws.proofs.LadderLaws.{Caught}
use Rattle.model.specs.Task.{Table}
use Rattle.model.specs.Request.{Requests}
use Rattle.model.specs.Answer.{Answer, answered}
use Rattle.table.specs.TableOf.{table_of}
use Rattle.table.specs.WellFormed.{WellFormed}
use Rattle.requests.specs.Entry.{list_of}
use Rattle.desk.specs.Orders.{TestOrder}
use Rattle.desk.specs.Questions.{on_order}
use Rattle.desk.specs.ListQuestions.{on_list}
use Rattle.promise.specs.Given.{Given, ListGiven, Exactly}
use Rattle.promise.specs.Forms.{Form}
use Rattle.promise.specs.RefusalCases.{NumbersOne}
use Rattle.promise.proofs.OrderExact.{order_exact, order_kept}
use Rattle.promise.proofs.ListExact.{list_exact, good_answered, answered_good}
use Rattle.promise.proofs.EveryNumbered.{numbers_one, list_numbered, order_numbered}
use Rattle.promise.proofs.FormsKept.{FormKept}

pub record Told {A : Type 0} (Given : ℕ → ℕ → Type 0) (said : Answer A) (value : A) (form : Form A) : Type 0 where
  pub exact : Exactly Given said
  pub gives : ((number index : ℕ) → Given number index → ⊥) → said ≡ answered value
  pub numbered : (number index : ℕ) → Given number index → NumbersOne number
  pub keeps : FormKept form

module _ {A : Type 0} {form : Form A} (s : List ℕ) (keeps : FormKept form) where
  -- each test of the order is right, and its numbers are of the table
  pub told_order : (order : TestOrder) (ask : Table → A) → (WellFormed s → Caught order s s)
      → all_numbers numbers_one order ≡ true → Told (Given s order) (on_order s order ask) (ask (table_of s)) form
  told_order order ask right all =
      let exact = order_exact s order ask right in
      record {
        exact = exact;
        gives = λ none.
            let (well, same, keeps) = order_kept s order ask right (exact.answers none).is in
            (exact.answers none).is ∙ ap answered same;
        numbered = order_numbered s order all;
        keeps = keeps;
      }

  pub told_list : (l : List ℕ) (ask : Table → Requests → A)
      → Told (ListGiven s l) (on_list s l ask) (ask (table_of s) (list_of l)) form
  told_list l ask =
      let exact = list_exact ask s l in
      record {
        exact = exact;
        gives = λ none. good_answered ask s l (answered_good ask s l (exact.answers none).is);
        numbered = list_numbered s l;
        keeps = keeps;
      }
