-- The answer at each end of the reading; and a record's rules, with what is known of the records passed, are rules by
-- which a reader is exact.
-- Assumes nothing.
use Prim.Native.Nat.{ℕ}
use mathlib.Core.Path.{◌≡◌, refl, sym}
use mathlib.Core.Logic.{inl, inr}
use mathlib.Core.List.{List}
use lib.ListN.{length}
use Rattle.std.specs.Prelude.{Ok, Err}
use Rattle.laws.specs.Reader.{whole, stopped, read_all}
use Rattle.laws.proofs.LadderLaws.{climb_kept, climb_broken, keeps_or_named}
use Rattle.laws.proofs.ReaderExact.{Rules}
use Rattle.table.specs.declared.rules.SoFar.{SoFar}
use Rattle.table.specs.declared.reader.Shape.{Shape}
use Rattle.table.specs.Bytes.{records, record_of}
use Rattle.table.specs.Faults.{refusal_at}
use Rattle.table.specs.TableReader.{table_reader, reading_of}
use Rattle.table.specs.WellFormed.{TableLengthRight, table_rules, GoodRecord}
use Rattle.table.specs.TableRefusals.{RecordBreaks}
use Rattle.table.proofs.TableLengthLaws.{catches_table_length}
use Rattle.table.proofs.KnownLaws.{Known, known_start}
use Rattle.table.proofs.KnownNext.{known_next}
use Rattle.table.proofs.TableRuleLaws.{table_rules_caught, good_record_keeps, keeps_good_record, record_breaks_some}

-- ---- the answer

module _ (s : List ℕ) where
  pub reading_stopped : {number index : ℕ} → read_all (table_reader s) ≡ stopped number index →
      Err (refusal_at number index) ≡ reading_of s
  unfolding reading_of
  reading_stopped is = sym (rw is)

  pub reading_whole : {b : SoFar} → read_all (table_reader s) ≡ whole b → {shape : Shape} → shape.records ≡ records s →
      shape.tasks ≡ b.tasks → Ok shape ≡ reading_of s
  unfolding reading_of
  reading_whole is records_is tasks_is = sym (rw (is, records_is, tasks_is))

-- ---- the rules

abbrev pub reading_rules : (s : List ℕ) → Rules (table_reader s)
reading_rules s =
    record {
      Long = TableLengthRight (length s);
      Good = GoodRecord s;
      Breaks = RecordBreaks s;
      Known = Known s;
      long = catches_table_length (length s);
      start = known_start s;
      next = λ i b known good. known_next known good;
      passes = λ i b known good.
          climb_kept (λ number index. number) (b, record_of s i) (s, i) 0 table_rules
          (table_rules_caught known) (good_record_keeps good);
      stops = λ i b number known breaks.
          climb_broken (λ number index. number) (b, record_of s i) (s, i) 0 table_rules number 0
          (table_rules_caught known) breaks;
      numbered = record_breaks_some s;
      either = λ i b known.
          elim (keeps_or_named (b, record_of s i) (s, i) table_rules refl (table_rules_caught known)) [
            | inl keeps ↦ inl (keeps_good_record s i keeps)
            | inr breaks ↦ inr breaks
          ];
    }
