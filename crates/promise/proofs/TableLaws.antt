-- What holds of every question that is asked of a table, for its bytes are a table or are refused: what is answered,
-- and what an answer tells. And of the verdict, which every table gets.
-- Assumes nothing.
use Prim.Native.Nat.{ℕ}
use mathlib.Core.Path.{◌≡◌, refl}
use mathlib.Core.List.{List}
use native.Mathlib.Omega.{arith}
use Rattle.std.specs.Prelude.{Result, Ok, Err}
use Rattle.model.specs.Task as Model
use Rattle.model.specs.Verdict.{horizon, verdict}
use Rattle.model.specs.Answer.{Answer, answered, refused}
use Rattle.table.specs.TableOf.{table_of}
use Rattle.table.specs.WellFormed.{WellFormed}
use Rattle.table.specs.TableRefusals.{TableRefused}
use Rattle.table.specs.declared.fault.Refusal.{Refusal}
use Rattle.table.specs.declared.reader.Shape.{Shape}
use Rattle.table.specs.TableReader.{reading_of}
use Rattle.table.proofs.TableReaderExact.{read_good, good_read, read_refused, refused_read}
use Rattle.desk.specs.Questions.{on_table, verdict_asked}

module _ {A : Type 0} (s : List ℕ) (ask : Model.Table → Answer A) where
  -- ---- from the bytes to the answer

  pub table_refused : {number index : ℕ} → TableRefused s number index → on_table s ask ≡ refused number index
  table_refused {number} {index} bad = rw (refused_read s number index bad)

  pub table_asked : WellFormed s → on_table s ask ≡ ask (table_of s)
  table_asked well = rw (good_read s well)

  -- ---- and back

  pub table_told : (Told : Answer A → Type 0)
      → ((number index : ℕ) → TableRefused s number index → Told (refused number index))
      → (WellFormed s → Told (ask (table_of s)))
      → Told (on_table s ask)
  table_told Told bad good = which (reading_of s) refl
    where
      which : (r : Result Shape Refusal) → reading_of s ≡ r → Told (on_table s ask)
      which (Ok shape) is = rw is (good (read_good s shape is))
      which (Err r) is = rw is (bad r.number r.index (read_refused s r is))

  -- bytes of which something is answered are a table
  pub answered_well : {value : A} → on_table s ask ≡ answered value → WellFormed s
  answered_well {value} = table_told (λ said. said ≡ answered value → WellFormed s) bad (λ well is. well)
    where
      bad : (number index : ℕ) → TableRefused s number index → refused number index ≡ answered value → WellFormed s
      bad number index named is = let apart : ◌≡◌ {A = ℕ} 0 1 = cc in absurd (omega arith)

pub well_judged : (s : List ℕ) → WellFormed s → verdict_asked s ≡ answered (verdict horizon (table_of s))
unfolding verdict_asked
well_judged s = table_asked s (λ table. answered (verdict horizon table))
