-- Which refusal the document gives a question, said of the bytes and numbers alone, in the order of document 01, "When
-- the desk says no"; and what it is that a question gets it exactly then.
-- Assumes nothing.
use Rattle.std.specs.Prelude.{ℕ, ◌≡◌, ◌⊎◌, List}
use Rattle.laws.specs.Ladder.{Breaks}
use Rattle.model.specs.Answer.{Answer, answered, refused}
use Rattle.table.specs.TableOf.{table_of}
use Rattle.table.specs.WellFormed.{WellFormed}
use Rattle.table.specs.TableRefusals.{TableRefused}
use Rattle.requests.specs.Accepted.{Accepted}
use Rattle.requests.specs.ListRefusals.{ListRefused}
use Rattle.desk.specs.Orders.{TestOrder}

-- ---- of a table: "Tables are tested first", then the question's own order

-- the bytes are a table, and the first rule of the order that they break gives this refusal
pub record Own (s : List ℕ) (order : TestOrder) (number index : ℕ) : Type 0 where
  pub table_good : WellFormed s
  pub breaks : Breaks order s number index

abbrev pub Given : List ℕ → TestOrder → ℕ → ℕ → Type 0
Given s order number index = TableRefused s number index ⊎ Own s order number index

-- ---- of a table with a request list

-- the bytes are a table, and the others a list of it
pub record BothGood (s list : List ℕ) : Type 0 where
  pub table_good : WellFormed s
  pub list_good : Accepted (table_of s) list

-- the table is good, and the list gets this refusal
pub record ListBad (s list : List ℕ) (number index : ℕ) : Type 0 where
  pub table_good : WellFormed s
  pub list_bad : ListRefused (table_of s) list number index

abbrev pub ListGiven : List ℕ → List ℕ → ℕ → ℕ → Type 0
ListGiven s list number index = TableRefused s number index ⊎ ListBad s list number index

-- ---- exactly

-- the question is answered, and with this
pub record Answered {A : Type 0} (said : Answer A) : Type 0 where
  pub value : A
  pub is : said ≡ answered value

-- "Given exactly when": refused where the document gives a refusal, with that number and index, only there, and
-- answered where it gives none
pub record Exactly {A : Type 0} (Given : ℕ → ℕ → Type 0) (said : Answer A) : Type 0 where
  pub refuses : (number index : ℕ) → Given number index → said ≡ refused number index
  pub only : (number index : ℕ) → said ≡ refused number index → Given number index
  pub answers : ((number index : ℕ) → Given number index → ⊥) → Answered said
