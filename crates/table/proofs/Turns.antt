-- The reader's loop: the frames so far stay few enough to count.
-- Assumes nothing.
use Prim.Native.Nat.{ℕ, ◌+◌, ◌≤◌, ◌<◌}
use mathlib.Core.Path.{◌≡◌, refl, sym, ap, ◌∙◌}
use mathlib.Core.List.{List}
use mathlib.Core.Bool.{Bool, true, false}
use lib.ListN.{length}
use native.Mathlib.Omega.{arith}
use Rattle.laws.proofs.ReaderLaws.{ReadsOn, reads_start, reads_turn}
use Rattle.table.specs.declared.record.Record.{Record}
use Rattle.table.specs.declared.rules.SoFar.{SoFar}
use Rattle.table.specs.Bytes.{most_records, records, record_of}
use Rattle.table.specs.TableRules.{nothing_known, begins, table_after}
use Rattle.table.specs.TableReader.{bad_table_length, table_fault, table_reader}
use Rattle.table.proofs.TableLengthLaws.{catches_table_length, table_length_few}

-- before record i, with b known of the records passed
pub record ReadsFew (s : List ℕ) (i : ℕ) (b : SoFar) : Type 0 where
  pub on : ReadsOn (table_reader s) i b
  pub few : records s ≤ most_records
  pub frames : b.frames ≤ i

-- before the first record all are zero
pub nothing_said : {b : SoFar} → b.tasks ≡ 0 → b.frames ≡ 0 → b.kind ≡ 0 → b.p ≡ 0 → b ≡ nothing_known
nothing_said tasks frames kind p = λ i. record { tasks = tasks i; frames = frames i; kind = kind i; p = p i }

pub few_start : (s : List ℕ) {bad : Bool} {b : SoFar} → bad ≡ bad_table_length (length s) → bad ≡ false
    → b ≡ nothing_known → ReadsFew s 0 b
few_start s is fine nothing =
    rw nothing
    (record {
      on = reads_start (table_reader s) is fine;
      few = table_length_few ((catches_table_length (length s)).passed (sym is ∙ fine));
      frames = omega arith;
    })

-- the frames so far grow by at most 1
frames_grow : (b : SoFar) (x : Record) → (table_after b x).frames ≤ b.frames + 1
frames_grow b x = which (begins b x) refl
  where
    which : (t : Bool) → begins b x ≡ t → (table_after b x).frames ≤ b.frames + 1
    which true e = rw e (omega arith)
    which false e = rw e (omega arith)

pub few_turn : {s : List ℕ} {i : ℕ} {b : SoFar} → ReadsFew s i b → {x : Record} {fault : ℕ} {after : SoFar} →
    i < records s → x ≡ record_of s i → fault ≡ table_fault b x → fault ≡ 0 → after ≡ table_after b x →
    ReadsFew s (i + 1) after
few_turn {b} so_far {x} more here fault_is none after_is =
    record {
      on = reads_turn so_far.on more here fault_is none after_is;
      few = so_far.few;
      frames = omega (arith, so_far.frames, frames_grow b x, ap (λ (y : SoFar). y.frames) after_is);
    }
