-- What a caller may conclude from the numbers of a flat answer: from a verdict's to the promises, and from a replay's
-- fields to its answer.
-- Assumes nothing.
use mathlib.Core.Path.{◌≡◌, refl}
use mathlib.Core.Bool.{true, false}
use mathlib.Core.List.{List}
use Prim.Native.Nat.{ℕ, ◌≤◌}
use native.Mathlib.Omega.{arith}
use Rattle.model.specs.Verdict as Rule
use Rattle.model.specs.Verdict.{horizon}
use Rattle.model.specs.VerdictMeaning.{Undecided}
use Rattle.model.specs.Replay.{Replayed, missed, all_met}
use Rattle.model.specs.Answer.{Answer, answered, refused}
use Rattle.table.specs.Bytes.{Bytes}
use Rattle.table.specs.TableOf.{table_of}
use Rattle.table.specs.TableRefusals.{TableRefused}
use Rattle.desk.specs.Questions.{verdict_asked}
use Rattle.desk.specs.FlatVerdict.{flat_verdict}
use Rattle.desk.specs.FlatList.{flat_ending}
use mathlib.Core.Logic.{inl, inr}
use Rattle.promise.specs.Asked as Ask
use Rattle.promise.specs.Promises.{Passed, OverloadShown}
use Rattle.promise.proofs.EveryLaws.{every_question}
use Rattle.promise.proofs.JudgedLaws.{judged_means}
use Rattle.promise.proofs.PassedLaws.{passed}
use Rattle.promise.proofs.OverloadedLaws.{overloaded_shown}

-- ---- the verdict by its number

module _ (s : List ℕ) (bytes : Bytes s) where
  pub is_overload : (said : Answer Rule.Verdict) → verdict_asked s ≡ said → (flat_verdict said).verdict ≡ 1
      → OverloadShown s (flat_verdict said).t
  unfolding flat_verdict
  is_overload (answered (Rule.overloaded t m starts)) is one = overloaded_shown s bytes is
  is_overload (answered (Rule.fits w m t)) is one = absurd (omega arith)
  is_overload (answered Rule.undecided) is one = absurd (omega arith)
  is_overload (refused number index) is one = absurd (omega arith)

  pub is_fit : (said : Answer Rule.Verdict) → verdict_asked s ≡ said → (flat_verdict said).verdict ≡ 2 → Passed s
  unfolding flat_verdict
  is_fit (answered (Rule.overloaded t m starts)) is two = absurd (omega arith)
  is_fit (answered (Rule.fits w m t)) is two = passed s bytes is
  is_fit (answered Rule.undecided) is two = absurd (omega arith)
  is_fit (refused number index) is two = absurd (omega arith)

  pub is_open : (said : Answer Rule.Verdict) → verdict_asked s ≡ said → (flat_verdict said).verdict ≡ 3
      → Undecided horizon (table_of s)
  unfolding flat_verdict
  is_open (answered (Rule.overloaded t m starts)) is three = absurd (omega arith)
  is_open (answered (Rule.fits w m t)) is three = absurd (omega arith)
  is_open (answered Rule.undecided) is three = judged_means s bytes is
  is_open (refused number index) is three = absurd (omega arith)

  pub is_refusal : (said : Answer Rule.Verdict) → verdict_asked s ≡ said → (flat_verdict said).verdict ≡ 0
      → let no = (flat_verdict said).refusal in TableRefused s no.number no.index
  unfolding flat_verdict
  is_refusal (answered (Rule.overloaded t m starts)) is none = absurd (omega arith)
  is_refusal (answered (Rule.fits w m t)) is none = absurd (omega arith)
  is_refusal (answered Rule.undecided) is none = absurd (omega arith)
  is_refusal (refused number index) is none =
      elim ((every_question s bytes Ask.verdict).exact.only number index is) [
        | inl bad ↦ bad
        | inr own ↦ absurd own.breaks
      ]

pub verdict_low : (said : Answer Rule.Verdict) → (flat_verdict said).verdict ≤ 3
unfolding flat_verdict
verdict_low (answered (Rule.overloaded t m starts)) = omega arith
verdict_low (answered (Rule.fits w m t)) = omega arith
verdict_low (answered Rule.undecided) = omega arith
verdict_low (refused number index) = omega arith

-- ---- a replay by its fields

-- of a refused replay no miss is said
pub not_missed : (said : Answer Replayed) → ((tick index : ℕ) → said ≡ answered (missed tick index) → ⊥)
    → (flat_ending said).missed ≡ false
unfolding flat_ending
not_missed (answered (missed tick index)) never = absurd (never tick index refl)
not_missed (answered (all_met tick)) never = refl
not_missed (refused number index) never = refl

-- one that is neither refused nor met is missed
pub is_missed : (said : Answer Replayed) → ((number index : ℕ) → said ≡ refused number index → 1 ≤ number)
    → ((tick : ℕ) → said ≡ answered (all_met tick) → ⊥) → (flat_ending said).refusal.number ≡ 0
    → (flat_ending said).missed ≡ true
unfolding flat_ending
is_missed (answered (missed tick index)) from never accepted = refl
is_missed (answered (all_met tick)) from never accepted = absurd (never tick refl)
is_missed (refused number index) from never accepted = let some = from number index refl in absurd (omega arith)
