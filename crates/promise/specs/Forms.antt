-- How each kind of answer is laid flat, which the desk's contracts say, and what a caller reads out of it again. Those
-- about request lists stand in ListForms.
-- Assumes nothing.
use Rattle.std.specs.Prelude.{cond, ℕ, zero, suc, eqb, ℤ}
use Rattle.laws.specs.Search.{Found, at, nowhere}
use Rattle.model.specs.Verdict.{Verdict, overloaded, fits, undecided}
use Rattle.model.specs.Response.{Response, on_time, late}
use Rattle.model.specs.Answer.{Answer, answered, refused}
use Rattle.table.specs.declared.fault.Refusal.{Refusal}
use Rattle.table.specs.declared.reader.Shape.{Shape}
use Rattle.desk.specs.declared.answers as flat
use Rattle.desk.specs.Flat.{flat_shape, flat_amount, flat_margin, flat_window}
use Rattle.desk.specs.FlatVerdict.{flat_verdict, flat_response}

-- an answer laid flat and read again. `look` is what of it is in the struct: all of it, but of a list that is written
-- its length, for its bytes are in the buffer
pub record Form (Says : Type 0) : Type 1 where
  pub Sees : Type 0
  pub Flat : Type 0
  pub look : Says → Sees
  pub lay : Answer Says → Flat
  pub refusal_in : Flat → Refusal
  pub value_in : Flat → Sees

-- 0 says that nothing was refused
abbrev pub read_back : {A : Type 0} (form : Form A) → form.Flat → Answer form.Sees
read_back form r =
    let x = form.refusal_in r in
    cond (eqb x.number 0) (answered (form.value_in r)) (refused x.number x.index)

-- ---- one for each kind of answer

abbrev pub plain_form : {A F : Type 0} → (Answer A → F) → (F → Refusal) → (F → A) → Form A
plain_form {A} {F} lay front value =
    record { Sees = A; Flat = F; look = λ x. x; lay = lay; refusal_in = front; value_in = value }

abbrev pub shape_form : Form Shape
shape_form = plain_form flat_shape (λ r. r.refusal) (λ r. record { records = r.records; tasks = r.tasks })

abbrev pub amount_form : Form ℕ
amount_form = plain_form flat_amount (λ r. r.refusal) (λ r. r.amount)

abbrev pub margin_form : Form ℤ
margin_form = plain_form flat_margin (λ r. r.refusal) (λ r. r.margin)

abbrev pub window_form : Form Found
window_form = plain_form flat_window (λ r. r.refusal) (λ r. cond r.closes (at r.window) nowhere)

-- 1 overloaded, 2 fits, else undecided
abbrev pub verdict_by : ℕ → flat.Verdict.Verdict → Verdict
verdict_by zero r = undecided
verdict_by (suc zero) r = overloaded r.t r.margin r.starts
verdict_by (suc (suc zero)) r = fits r.window r.margin r.t
verdict_by (suc (suc (suc n))) r = undecided

abbrev pub verdict_form : Form Verdict
verdict_form = plain_form flat_verdict (λ r. r.refusal) (λ r. verdict_by r.verdict r)

abbrev pub response_form : Form Response
response_form =
    plain_form flat_response (λ r. r.refusal)
    (λ r. cond r.late (late r.value r.round) (on_time r.value r.round))
