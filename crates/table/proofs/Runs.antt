-- A task's frames are one run of records: those from `records_before` on, `records_of` of them.
-- Assumes nothing.
use Prim.Native.Nat.{ℕ, ◌+◌, ◌-◌, ◌≤◌, ◌<◌}
use mathlib.Core.Path.{◌≡◌, refl, sym, ◌∙◌}
use mathlib.Core.Logic.{inl, inr}
use mathlib.Core.List.{List}
use mathlib.Core.Bool.{Bool, true, false}
use native.Mathlib.Omega.{arith}
use lib.Dec.{ltb, eqb}
use borrow.Author.Tests.{ltb-true, ltb-false, eqb-true, eqb-false, lt-ltb, le-ltb}
use Rattle.laws.specs.Sums.{only}
use Rattle.laws.proofs.Cases.{lt_or_le}
use Rattle.laws.proofs.SumLaws.{sum_+, sum_cong}
use Rattle.table.specs.Bytes.{records, record_of}
use Rattle.table.specs.WellFormed.{SameTask, WellFormed}
use Rattle.table.specs.TableOf.{records_before, records_of, table_of}
use Rattle.table.proofs.Rising.{before_most, meets, before_in, before_is, last_record}

-- ---- of any bytes

-- a task below k + 1 is below k, or k
below_or_is : (task k : ℕ) → only (ltb task (k + 1)) 1 ≡ only (ltb task k) 1 + only (eqb task k) 1
below_or_is task k = which (ltb task k) (eqb task k) refl refl
  where
    which : (below is : Bool) → ltb task k ≡ below → eqb task k ≡ is →
        only (ltb task (k + 1)) 1 ≡ only below 1 + only is 1
    which true true e f = absurd (omega (arith, ltb-true task k e, eqb-true task k f))
    which true false e f = rw (lt-ltb task (k + 1) (omega (arith, ltb-true task k e)))
    which false true e f = rw (lt-ltb task (k + 1) (omega (arith, eqb-true task k f)))
    which false false e f = rw (le-ltb task (k + 1) (omega (arith, ltb-false task k e, eqb-false task k f)))

-- the tasks below k + 1 are those below k, and k
pub before_next : (n : ℕ) (s : List ℕ) (k : ℕ) → records_before n s (k + 1) ≡ records_before n s k + records_of n s k
unfolding records_before records_of
before_next n s k = sum_cong n _ _ (λ j within. below_or_is (record_of s j).task k) ∙ sum_+ n _ _

-- the run ends within the table
pub run_within : (n : ℕ) (s : List ℕ) (k : ℕ) → records_before n s k + records_of n s k ≤ n
run_within n s k = omega (arith, before_next n s k, before_most n s (k + 1))

-- ---- of well-formed bytes

-- record j is in the run of task k
pub record InTask (s : List ℕ) (k j : ℕ) : Type 0 where
  pub from : records_before (records s) s k ≤ j
  pub to : j < records_before (records s) s k + records_of (records s) s k

module _ {s : List ℕ} (well : WellFormed s) where
  -- the run of task k holds its frames and no others
  pub task_inside : (k j : ℕ) → j < records s → (record_of s j).task ≡ k → InTask s k j
  task_inside k j within is =
      record {
        from = elim (lt_or_le j (records_before (records s) s k)) [
          | inl less ↦ absurd (omega (arith, before_is well k j within less))
          | inr more ↦ more
        ];
        to = omega (arith, before_next (records s) s k, before_in well (k + 1) j within (omega arith));
      }

  pub task_is : (k j : ℕ) → InTask s k j → (record_of s j).task ≡ k
  task_is k j frame =
      let within : j < records s = omega (arith, frame.to, run_within (records s) s k) in
      let ended = before_next (records s) s k in
      elim (lt_or_le (record_of s j).task k) [
        | inl less ↦ absurd (omega (arith, frame.from, before_in well k j within less))
        | inr more ↦ omega (arith, before_is well (k + 1) j within (omega (arith, frame.to)))
      ]

  -- a task of the table has a frame, and no more than 16
  pub run_some : (k : ℕ) → k < (table_of s).tasks → 1 ≤ records_of (records s) s k
  run_some k below =
      let found = meets well (records s - 1) k (last_record well) (omega arith) in
      let frame = task_inside k found.place (omega (arith, found.up_to, last_record well)) found.is in
      omega (arith, frame.from, frame.to)

  pub run_few : (k : ℕ) → records_of (records s) s k ≤ 16
  run_few k = elim (lt_or_le (records_of (records s) s k) 2) [ inl less ↦ omega arith | inr more ↦ long more ]
    where
      long : 2 ≤ records_of (records s) s k → records_of (records s) s k ≤ 16
      long more =
          let first = records_before (records s) s k in
          let last = first + records_of (records s) s k - 1 in
          let within = run_within (records s) s k in
          let first_is = task_is k first (record { from = omega arith; to = omega arith }) in
          let last_is = task_is k last (record { from = omega arith; to = omega arith }) in
          let same : SameTask s first last = record { earlier = omega arith; same = first_is ∙ sym last_is } in
          omega (arith, (well.good last (omega arith)).has_room first same)
