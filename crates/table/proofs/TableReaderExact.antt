-- The reader is exact, both ways: it gives a table exactly where the bytes are well formed, and a refusal exactly where
-- document 01 names that refusal with that index.
-- Assumes nothing.
use Prim.Native.Nat.{ℕ, ◌*◌, ◌≤◌}
use mathlib.Core.Path.{◌≡◌, refl, sym}
use mathlib.Core.List.{List}
use lib.ListN.{length}
use native.Mathlib.Omega.{arith}
use Rattle.std.specs.Prelude.{Result, Ok, Err}
use Rattle.laws.specs.Reader.{Read, whole, stopped, read_all}
use Rattle.laws.proofs.ReaderExact.{Said, said, faultless_read, faulty_read}
use Rattle.table.specs.declared.rules.SoFar.{SoFar}
use Rattle.table.specs.declared.reader.Shape.{Shape}
use Rattle.table.specs.declared.fault.Refusal.{Refusal}
use Rattle.table.specs.Faults.{refusal_at}
use Rattle.table.specs.Bytes.{size, most_records, records}
use Rattle.table.specs.TableReader.{table_reader, reading_in, reading_of}
use Rattle.table.specs.WellFormed.{WellFormed}
use Rattle.table.specs.TableRefusals.{TableRefused}
use Rattle.table.specs.TableOf.{table_of}
use Rattle.table.proofs.TableLengthLaws.{table_length_some, table_length_few}
use Rattle.table.proofs.KnownLaws.{before_it}
use Rattle.table.proofs.Rising.{few_tasks}
use Rattle.table.proofs.ReadLaws.{reading_stopped, reading_whole, reading_rules}

-- what a reading says of the bytes
abbrev Told : List ℕ → Result Shape Refusal → Type 0
Told s (Ok t) = WellFormed s
Told s (Err r) = TableRefused s r.number r.index

told : (s : List ℕ) → Told s (reading_of s)
unfolding reading_of
told s = from (read_all (table_reader s)) (said (reading_rules s))
  where
    from : (x : Read SoFar) → Said (reading_rules s) x → Told s (reading_in (records s) x)
    from (whole b) faultless = record { long = faultless.long; good = faultless.good }
    from (stopped number index) faulty = faulty

-- ---- a table is read exactly where the bytes are well formed

pub read_good : (s : List ℕ) (t : Shape) → reading_of s ≡ Ok t → WellFormed s
read_good s t is = rw is at (told s)

pub good_read : (s : List ℕ) → WellFormed s →
    reading_of s ≡ Ok (record { records = records s; tasks = (table_of s).tasks })
good_read s well =
    let end = faultless_read (reading_rules s) (record { long = well.long; good = well.good }) in
    sym (reading_whole s end.is refl (before_it end.known (table_length_some well.long)).task)

-- ---- a refusal is given exactly where document 01 gives it

pub read_refused : (s : List ℕ) (r : Refusal) → reading_of s ≡ Err r → TableRefused s r.number r.index
read_refused s r is = rw is at (told s)

pub refused_read : (s : List ℕ) (number index : ℕ) → TableRefused s number index →
    reading_of s ≡ Err (refusal_at number index)
refused_read s number index bad = sym (reading_stopped s (faulty_read (reading_rules s) number index bad))

-- ---- what a caller that has read a table knows

pub record Shaped (s : List ℕ) (t : Shape) : Type 0 where
  pub well : WellFormed s
  pub records_are : t.records ≡ records s
  pub tasks_are : t.tasks ≡ (table_of s).tasks
  pub inside : t.records * size ≤ length s
  pub few_records : t.records ≤ most_records
  pub few_tasks : t.tasks ≤ 16

pub shaped : (s : List ℕ) (t : Shape) → reading_of s ≡ Ok t → Shaped s t
shaped s t read =
    let well = read_good s t read in
    let records_are : t.records ≡ records s = cc (good_read s well) in
    let tasks_are : t.tasks ≡ (table_of s).tasks = cc (good_read s well) in
    record {
      well = well;
      records_are = records_are;
      tasks_are = tasks_are;
      inside = omega arith;
      few_records = omega (arith, table_length_few well.long);
      few_tasks = omega (arith, few_tasks well);
    }
