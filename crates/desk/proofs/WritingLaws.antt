-- The ways through the questions for the overload list: the overload that the verdict tells, or none; its list's
-- length, or what the writer leaves.
-- Assumes nothing.
use mathlib.Core.Bool.{true}
use mathlib.Core.Path.{◌≡◌, refl, sym, ◌∙◌}
use mathlib.Core.List.{List}
use Prim.Native.Nat.{ℕ}
use native.Mathlib.Omega.{arith}
use lib.IntN.{ℤ}
use Rattle.std.specs.Prelude.{Ok, Err}
use Rattle.model.specs.Verdict as Rule
use Rattle.model.specs.Verdict.{horizon, verdict}
use Rattle.model.proofs.OverloadVerdict.{verdict_over}
use Rattle.table.specs.declared.task_table.TaskTable.{TaskTable}
use Rattle.table.specs.Faults.{refusal_at}
use Rattle.table.specs.Ready.{table_in}
use Rattle.table.proofs.ReadyLaws.{table_proper}
use Rattle.verdict.specs.declared.judge.Verdict.{Verdict}
use Rattle.verdict.specs.declared.judge.Verdict.TheVariants.{Overloaded}
use Rattle.verdict.specs.VerdictWritten.{verdict_of}
use Rattle.overload.specs.Counts.{Asked}
use Rattle.desk.specs.Orders.{size_order}
use Rattle.desk.specs.OverloadRules.{is_calm, list_at, list_in}
use Rattle.desk.specs.Questions.{on_order}
use Rattle.desk.specs.Said.{result_of}

-- ---- the verdict taken apart

-- a verdict that is written as no overload is calm
other_calm : (v : Rule.Verdict)
    → ((t : ℕ) (m : ℤ) (starts : List ℕ) → verdict_of v ≡ Overloaded t m starts → ⊥) → is_calm v ≡ true
other_calm (Rule.overloaded t m starts) other = absurd (other _ _ _ refl)
other_calm (Rule.fits window m t) other = refl
other_calm Rule.undecided other = refl

overload_told : (v : Rule.Verdict) {t : ℕ} {m : ℤ} {starts : List ℕ} → verdict_of v ≡ Overloaded t m starts
    → v ≡ Rule.overloaded t m starts
overload_told (Rule.overloaded t m starts) told = cc
overload_told (Rule.fits window m t) told = let apart : ◌≡◌ {A = ℕ} 0 1 = cc in absurd (omega arith)
overload_told Rule.undecided told = let apart : ◌≡◌ {A = ℕ} 0 1 = cc in absurd (omega arith)

module _ (table : TaskTable) {judged : Verdict} (is : judged ≡ verdict_of (verdict horizon (table_in table))) where
  -- 13
  pub calm_said : ((t : ℕ) (m : ℤ) (starts : List ℕ) → judged ≡ Overloaded t m starts → ⊥)
      → Err (refusal_at 13 0) ≡ result_of (on_order table.bytes.now size_order list_in)
  calm_said other = rw (table.read, other_calm (verdict horizon (table_in table)) (rw is at other)) refl

  module _ {t : ℕ} {m : ℤ} {starts : List ℕ} (told : judged ≡ Overloaded t m starts) where
    verdict_is : verdict horizon (table_in table) ≡ Rule.overloaded t m starts
    verdict_is = overload_told (verdict horizon (table_in table)) (sym is ∙ told)

    pub overload_said : Ok (list_at (table_in table) t) ≡ result_of (on_order table.bytes.now size_order list_in)
    overload_said = rw (table.read, verdict_is) refl

    -- what the writer asks
    pub writer_asked : Asked (table_in table) t starts
    unfolding horizon
    writer_asked =
        let over = verdict_over (table_proper table) verdict_is in
        record { within = omega (arith, over.within); starts_are = over.starts_are }
