-- Which verdict bytes get: the one that means what holds of their table, which is one and no other.
-- Assumes nothing.
use mathlib.Core.Path.{◌≡◌, sym, ap, subst, ◌∙◌}
use mathlib.Core.List.{List}
use Prim.Native.Nat.{ℕ}
use Rattle.model.specs.Verdict.{horizon, Verdict, undecided, verdict}
use Rattle.model.specs.VerdictMeaning.{Means}
use Rattle.model.specs.Answer.{answered}
use Rattle.model.proofs.VerdictLaws.{verdict_means, means_only}
use Rattle.table.specs.Bytes.{Bytes}
use Rattle.table.specs.TableOf.{table_of}
use Rattle.table.specs.WellFormed.{WellFormed}
use Rattle.table.proofs.TaskLaws.{well_proper}
use Rattle.desk.specs.Questions.{verdict_asked}
use Rattle.promise.specs.Promises.{JudgedRightly}
use Rattle.promise.proofs.TableLaws.{answered_well, well_judged}

-- bytes that get a verdict are a table
pub judged_well : (s : List ℕ) {v : Verdict} → verdict_asked s ≡ answered v → WellFormed s
unfolding verdict_asked
judged_well s = answered_well s (λ table. answered (verdict horizon table))

module _ (s : List ℕ) (bytes : Bytes s) where
  pub judged_means : {v : Verdict} → verdict_asked s ≡ answered v → Means horizon (table_of s) v
  judged_means {v} judged =
      let well = judged_well s judged in
      let is : verdict horizon (table_of s) ≡ v = cc (well_judged s well) in
      subst (Means horizon (table_of s)) is (verdict_means (well_proper bytes well) horizon)

  module _ (well : WellFormed s) where
    only : (v : Verdict) → Means horizon (table_of s) v → verdict_asked s ≡ answered v
    only v means = well_judged s well ∙ ap answered (sym (means_only (well_proper bytes well) horizon v means))

    pub judged_rightly : JudgedRightly s
    judged_rightly =
        let good = well_proper bytes well in
        record {
          means = λ v judged. judged_means judged;
          only = only;
          exclusive = λ v u one other. means_only good horizon v one ∙ sym (means_only good horizon u other);
          complete = (verdict horizon (table_of s), verdict_means good horizon);
          undecided_when = only undecided;
          undecided_only = λ judged. judged_means judged;
        }
