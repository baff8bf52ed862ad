-- The tables of document 01 with one sporadic task and large numbers, read: what is computed of their bytes.
-- Assumes nothing.
use mathlib.Core.Path.{◌≡◌, refl}
use mathlib.Core.List.{List}
use Prim.Native.Nat.{ℕ}
use lib.Dec.{T}
use Rattle.std.specs.Prelude.{Ok}
use Rattle.laws.specs.Sums.{sum}
use Rattle.laws.specs.Reader.{read_on, read_all}
use Rattle.laws.proofs.Every.{every}
use Rattle.model.specs.Task.{Table, ProperTable}
use Rattle.model.specs.Verdict.{horizon, Verdict}
use Rattle.model.specs.VerdictMeaning.{Means}
use Rattle.model.specs.Answer.{answered}
use Rattle.model.proofs.LoneTask.{Lone}
use Rattle.table.specs.Bytes.{Bytes, record_of}
use Rattle.table.specs.TableReader.{reading_of}
use Rattle.table.specs.TableOf.{records_before, records_of, task_of, table_of}
use Rattle.table.specs.WellFormed.{WellFormed}
use Rattle.table.proofs.TableReaderExact.{read_good}
use Rattle.table.proofs.TaskLaws.{well_proper}
use Rattle.desk.specs.Questions.{verdict_asked}
use Rattle.promise.specs.Tables.{each_2, each_21846, each_32769, longest}
use Rattle.promise.proofs.RowLaws.{is_byte, are_bytes}
use Rattle.promise.proofs.JudgedLaws.{judged_rightly}

-- the bytes are the table (e,d,p)
pub record Reads (s : List ℕ) (e d p : ℕ) : Type 0 where
  pub all_bytes : T (every is_byte s)
  pub read : reading_of s ≡ Ok (record { records = 1; tasks = 1 })
  pub lone : Lone (table_of s) e d p

module _ {s : List ℕ} {e d p : ℕ} (reads : Reads s e d p) where
  pub lone_bytes : Bytes s
  lone_bytes = are_bytes s reads.all_bytes

  pub lone_well : WellFormed s
  lone_well = read_good s (record { records = 1; tasks = 1 }) reads.read

  pub lone_good : ProperTable (table_of s)
  lone_good = well_proper lone_bytes lone_well

  -- the verdict that holds of the table is the one that the bytes get
  pub lone_judged : (v : Verdict) → Means horizon (table_of s) v → verdict_asked s ≡ answered v
  lone_judged = (judged_rightly s lone_bytes lone_well).only

-- each is computed
reads_so : {s : List ℕ} {e d p : ℕ} → T (every is_byte s)
    → reading_of s ≡ Ok (record { records = 1; tasks = 1 }) → Lone (table_of s) e d p → Reads s e d p
reads_so all_bytes read lone = record { all_bytes = all_bytes; read = read; lone = lone }

lone_so : {table : Table} {e d p : ℕ} → table.tasks ≡ 1 → (table.task 0).count ≡ 1
    → (table.task 0).E 0 ≡ e → (table.task 0).D 0 ≡ d → (table.task 0).P 0 ≡ p → Lone table e d p
lone_so tasks count E D P = record { one_task = tasks; one_frame = count; e_is = E; d_is = D; p_is = P }

pub each_2_reads : Reads each_2 2 65535 1
unfolding each_2 is_byte every reading_of read_all read_on record_of records_before records_of task_of sum
each_2_reads = reads_so tt refl (lone_so refl refl refl refl refl)

pub each_21846_reads : Reads each_21846 21846 65535 1
unfolding each_21846 is_byte every reading_of read_all read_on record_of records_before records_of task_of sum
each_21846_reads = reads_so tt refl (lone_so refl refl refl refl refl)

pub each_32769_reads : Reads each_32769 32769 65535 1
unfolding each_32769 is_byte every reading_of read_all read_on record_of records_before records_of task_of sum
each_32769_reads = reads_so tt refl (lone_so refl refl refl refl refl)

pub longest_reads : Reads longest 65535 65535 65535
unfolding longest is_byte every reading_of read_all read_on record_of records_before records_of task_of sum
longest_reads = reads_so tt refl (lone_so refl refl refl refl refl)
