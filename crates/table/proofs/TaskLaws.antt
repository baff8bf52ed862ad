-- The task that a run of records is; and a well-formed table is proper: document 01's bounds on it hold.
-- Assumes nothing.
use Prim.Native.Nat.{ℕ, ◌+◌, ◌*◌, ◌≤◌, ◌<◌}
use mathlib.Core.Path.{◌≡◌, refl}
use mathlib.Core.List.{List}
use lib.ListN.{get_or}
use native.Mathlib.Omega.{arith}
use Rattle.model.specs.Task.{Proper, ProperTable}
use Rattle.table.specs.Bytes.{Bytes, size, records, half, record_of}
use Rattle.table.specs.WellFormed.{GoodRecord, WellFormed}
use Rattle.table.specs.TableOf.{records_before, records_of, task_of, table_of}
use Rattle.table.proofs.Rising.{few_tasks}
use Rattle.table.proofs.Runs.{run_within, run_some, run_few}

-- ---- the task of `count` records from record `first` on

module _ (s : List ℕ) (first count : ℕ) where
  pub task_count : (task_of s first count).count ≡ count
  unfolding task_of
  task_count = refl

  pub task_E : (i : ℕ) → (task_of s first count).E i ≡ (record_of s (first + i)).e
  unfolding task_of
  task_E i = refl

  pub task_D : (i : ℕ) → (task_of s first count).D i ≡ (record_of s (first + i)).d
  unfolding task_of
  task_D i = refl

  pub task_P : (i : ℕ) → (task_of s first count).P i ≡ (record_of s (first + i)).p
  unfolding task_of
  task_P i = refl

-- ---- bounds

module _ (s : List ℕ) (bytes : (i : ℕ) → get_or s i 0 < 256) where
  -- "each 1 to 65,535": two bytes hold no more
  half_most : (at : ℕ) → half s at ≤ 65535
  half_most at = omega (arith, bytes at, bytes (at + 1))

  e_most : (i : ℕ) → (record_of s i).e ≤ 65535
  unfolding record_of
  e_most i = half_most (i * size + 2)

  d_most : (i : ℕ) → (record_of s i).d ≤ 65535
  unfolding record_of
  d_most i = half_most (i * size + 4)

  p_most : (i : ℕ) → (record_of s i).p ≤ 65535
  unfolding record_of
  p_most i = half_most (i * size + 6)

  -- a task whose frames are good records
  task_proper : (first count : ℕ) → 1 ≤ count → count ≤ 16 → ((i : ℕ) → i < count → GoodRecord s (first + i)) →
      Proper (task_of s first count)
  unfolding task_of
  task_proper first count some few good =
      record {
        some = some;
        few = few;
        runs = λ i within. (good i within).not_zero.e;
        short = λ i within. e_most (first + i);
        waits = λ i within. (good i within).not_zero.d;
        soon = λ i within. d_most (first + i);
        moves = λ i within. (good i within).not_zero.p;
        often = λ i within. p_most (first + i);
      }

-- what is read as a table has numbers in their bounds
pub well_proper : {s : List ℕ} → Bytes s → WellFormed s → ProperTable (table_of s)
well_proper {s} bytes well = record { some = omega arith; few = few_tasks well; proper = proper }
  where
    first : ℕ → ℕ
    first = records_before (records s) s

    proper : (k : ℕ) → k < (table_of s).tasks → Proper ((table_of s).task k)
    proper k below =
        task_proper s (λ i. (bytes i).fits) (first k) (records_of (records s) s k) (run_some well k below)
        (run_few well k) (λ i within. well.good (first k + i) (omega (arith, run_within (records s) s k)))
