-- What holds of every question, put together: refused exactly, by a number of the document's table, answered by the
-- definitions, and nothing lost.
-- Assumes nothing.
use mathlib.Core.Path.{◌≡◌}
use mathlib.Core.List.{List}
use Prim.Native.Nat.{ℕ}
use Rattle.model.specs.Answer.{refused}
use Rattle.table.specs.Bytes.{Bytes}
use Rattle.promise.specs.Asked.{Question, row}
use Rattle.promise.specs.RefusalCases.{NumbersOne}
use Rattle.promise.specs.EveryQuestion.{EveryQuestion}
use Rattle.promise.proofs.FormsKept.{read_back_laid}
use Rattle.promise.proofs.EachQuestion.{told}

pub every_question : (s : List ℕ) → Bytes s → (q : Question) → EveryQuestion s q
every_question s bytes q =
    let its = told s bytes q in
    let one : (number index : ℕ) → (row s q).said ≡ refused number index → NumbersOne number =
    λ number index is. its.numbered number index (its.exact.only number index is) in
    record {
      exact = its.exact;
      gives = its.gives;
      numbered = one;
      kept = read_back_laid (row s q).form its.keeps (row s q).said one;
    }
