-- Nothing of an answer is lost in its flat struct, form by form.
-- Assumes nothing.
use mathlib.Core.Path.{◌≡◌, refl, ap}
use Prim.Native.Nat.{ℕ}
use native.Mathlib.Omega.{arith}
use borrow.Author.Tests.{ne_eqb}
use Rattle.laws.specs.Search.{at, nowhere}
use Rattle.model.specs.Response as Recurrence
use Rattle.model.specs.Verdict as Judge
use Rattle.model.specs.Replay.{missed, all_met}
use Rattle.model.specs.Answer.{Answer, answered, refused}
use Rattle.desk.specs.Flat.{refusal, flat_shape, flat_amount, flat_margin, flat_window}
use Rattle.desk.specs.FlatVerdict.{flat_verdict, flat_response}
use Rattle.desk.specs.FlatList.{seen, flat_written, flat_listed, flat_ending}
use Rattle.desk.specs.FlatBench.{flat_loaded}
use Rattle.promise.specs.Forms.{Form, read_back, shape_form, amount_form, margin_form, window_form, verdict_form, response_form}
use Rattle.promise.specs.ListForms.{size_form, written_form, listed_form, loading_form, ending_form}
use Rattle.promise.specs.RefusalCases.{NumbersOne}
use Rattle.promise.proofs.StepLaws.{state_kept}

-- an answer is read back from what its struct holds
abbrev Back : {A : Type 0} → Form A → A → Type 0
Back form x = read_back form (form.lay (answered x)) ≡ answered (form.look x)

-- of a form: an answer is read back from what its struct holds, a refusal from the refusal in front
pub record FormKept {A : Type 0} (form : Form A) : Type 0 where
  pub back : (x : A) → read_back form (form.lay (answered x)) ≡ answered (form.look x)
  pub front : (number index : ℕ) → form.refusal_in (form.lay (refused number index)) ≡ refusal number index

pub read_back_laid : {A : Type 0} (form : Form A) → FormKept form → (a : Answer A)
    → ((number index : ℕ) → a ≡ refused number index → NumbersOne number)
    → read_back form (form.lay a) ≡ seen form.look a
read_back_laid form kept (answered x) one = kept.back x
read_back_laid form kept (refused number index) one =
    let from = (one number index refl).from in
    rw (kept.front number index, ne_eqb number 0 (λ is. omega arith))

-- ---- one for each kind of answer

pub shape_kept : FormKept shape_form
unfolding flat_shape
shape_kept = record { back = λ x. refl; front = λ number index. refl }

pub amount_kept : FormKept amount_form
unfolding flat_amount
amount_kept = record { back = λ x. refl; front = λ number index. refl }

pub margin_kept : FormKept margin_form
unfolding flat_margin
margin_kept = record { back = λ x. refl; front = λ number index. refl }

pub window_kept : FormKept window_form
unfolding flat_window
window_kept =
    record {
      back = λ x. elim x as (Back window_form) [ at w ↦ refl | nowhere ↦ refl ];
      front = λ number index. refl;
    }

pub verdict_kept : FormKept verdict_form
unfolding flat_verdict
verdict_kept =
    record {
      back = λ x.
          elim x as (Back verdict_form) [
            | Judge.overloaded t m starts ↦ refl
            | Judge.fits w m t ↦ refl
            | Judge.undecided ↦ refl
          ];
      front = λ number index. refl;
    }

pub response_kept : FormKept response_form
unfolding flat_response
response_kept =
    record {
      back = λ x.
          elim x as (Back response_form) [
            | Recurrence.on_time value rounds ↦ refl
            | Recurrence.late value round ↦ refl
          ];
      front = λ number index. refl;
    }

pub size_kept : FormKept size_form
unfolding flat_written
size_kept = record { back = λ x. refl; front = λ number index. refl }

pub written_kept : FormKept written_form
unfolding flat_written
written_kept = record { back = λ x. refl; front = λ number index. refl }

pub listed_kept : FormKept listed_form
unfolding flat_listed
listed_kept = record { back = λ x. refl; front = λ number index. refl }

pub loading_kept : FormKept loading_form
unfolding flat_loaded
loading_kept =
    record {
      back = λ x. ap (λ b. answered (record { records = x.records; bench = b })) (state_kept x.bench);
      front = λ number index. refl;
    }

pub ending_kept : FormKept ending_form
unfolding flat_ending
ending_kept =
    record {
      back = λ x. elim x as (Back ending_form) [ missed tick index ↦ refl | all_met tick ↦ refl ];
      front = λ number index. refl;
    }
