-- The task numbers of a well-formed table rise one by one, so the records of the tasks below k come first.
-- Assumes nothing.
use Prim.Native.Nat.{ℕ, zero, suc, ◌-◌, ◌≤◌, ◌<◌}
use mathlib.Core.Path.{◌≡◌, refl, sym}
use mathlib.Core.Logic.{inl, inr}
use mathlib.Core.List.{List}
use mathlib.Core.Bool.{Bool, true}
use native.Mathlib.Omega.{arith}
use lib.Dec.{ltb}
use borrow.Author.Tests.{ltb-true, lt-ltb}
use Rattle.laws.proofs.Cases.{lt_or_last}
use Rattle.laws.proofs.TallyLaws.{UpTo, tally_most, tally_place}
use Rattle.table.specs.Bytes.{records, record_of}
use Rattle.table.specs.WellFormed.{WellFormed}
use Rattle.table.specs.TableOf.{records_before, table_of}
use Rattle.table.proofs.TableLengthLaws.{table_length_some}

-- record i is of a task below k
abbrev is_below : List ℕ → ℕ → ℕ → Bool
is_below s k i = ltb (record_of s i).task k

pub before_most : (n : ℕ) (s : List ℕ) (k : ℕ) → records_before n s k ≤ n
unfolding records_before
before_most n s k = tally_most (is_below s k) n

-- a record up to j is of task k
pub record Meets (s : List ℕ) (k j : ℕ) : Type 0 where
  pub place : ℕ
  pub up_to : place ≤ j
  pub is : (record_of s place).task ≡ k

module _ {s : List ℕ} (well : WellFormed s) where
  -- task numbers do not fall
  rises : (i j : ℕ) → i ≤ j → j < records s → (record_of s i).task ≤ (record_of s j).task
  rises i zero order within = let here : i ≡ 0 = omega arith in rw here (omega arith)
  rises i (suc j) order within =
      elim (lt_or_last i (suc j) (omega arith)) [
        | inl less ↦ elim ((well.good (suc j) within).in_run.run j (omega arith)) [
          | inl same ↦ omega (arith, rises i j (omega arith) (omega arith))
          | inr next ↦ omega (arith, rises i j (omega arith) (omega arith))
        ]
        | inr here ↦ rw here (omega arith)
      ]

  -- no number is left out
  pub meets : (j k : ℕ) → j < records s → k ≤ (record_of s j).task → Meets s k j
  meets zero k within reached =
      record { place = 0; up_to = omega arith; is = omega (arith, (well.good 0 within).in_run.opens refl) }
  meets (suc j) k within reached =
      elim (lt_or_last k (record_of s (suc j)).task (omega arith)) [
        | inl less ↦ elim ((well.good (suc j) within).in_run.run j (omega arith)) [
          | inl same ↦ later (meets j k (omega arith) (omega arith))
          | inr next ↦ later (meets j k (omega arith) (omega arith))
        ]
        | inr here ↦ record { place = suc j; up_to = omega arith; is = sym here }
      ]
    where
      later : Meets s k j → Meets s k (suc j)
      later found = record { place = found.place; up_to = omega (arith, found.up_to); is = found.is }

  before_place : (k : ℕ) → UpTo (is_below s k) (records s) (records_before (records s) s k)
  unfolding records_before
  before_place k =
      tally_place (is_below s k) (records s) (λ i j order within low. lt-ltb _ _ (lower i j order within low))
    where
      lower : (i j : ℕ) → i ≤ j → j < records s → is_below s k j ≡ true → (record_of s i).task < k
      lower i j order within low = omega (arith, rises i j order within, ltb-true (record_of s j).task k low)

  -- the records of the tasks below k are the first `records_before`
  pub before_in : (k j : ℕ) → j < records s → (record_of s j).task < k → j < records_before (records s) s k
  before_in k j within low = (before_place k).below j within (lt-ltb (record_of s j).task k low)

  pub before_is : (k j : ℕ) → j < records s → j < records_before (records s) s k → (record_of s j).task < k
  before_is k j within less = ltb-true (record_of s j).task k ((before_place k).passes j within less)

  -- "16 tasks"
  pub last_record : records s - 1 < records s
  last_record = omega (arith, table_length_some well.long)

  pub few_tasks : (table_of s).tasks ≤ 16
  few_tasks = omega (arith, (well.good (records s - 1) last_record).in_run.low)
