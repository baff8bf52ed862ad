-- The document's answers laid flat, one case for each: which number stands for which answer, and what every field is.
-- Where a question is refused, every field but the refusal is zero; so is every field that an answer has no use for.
-- Here the refusal, and what a table is asked for one number.
-- Assumes nothing.
use Rattle.std.specs.Prelude.{true, false, ℕ, ℤ, pos}
use Rattle.laws.specs.Search.{Found, at, nowhere}
use Rattle.model.specs.Answer.{Answer, answered, refused}
use Rattle.table.specs.declared.fault.Refusal.{Refusal}
use Rattle.table.specs.declared.reader.Shape as reader
use Rattle.desk.specs.declared.answers.Shape.{Shape}
use Rattle.desk.specs.declared.answers.Amount.{Amount}
use Rattle.desk.specs.declared.answers.Margin.{Margin}
use Rattle.desk.specs.declared.answers.Window.{Window}

-- "Every refusal is a refusal number with the record index"
abbrev pub refusal : ℕ → ℕ → Refusal
refusal number index = record { number = number; index = index }

-- no refusal has the number 0: it says that nothing was refused
abbrev pub none : Refusal
none = refusal 0 0

unfoldable pub flat_shape : Answer reader.Shape → Shape
flat_shape (answered x) = record { refusal = none; tasks = x.tasks; records = x.records }
flat_shape (refused number index) = record { refusal = refusal number index; tasks = 0; records = 0 }

unfoldable pub flat_amount : Answer ℕ → Amount
flat_amount (answered n) = record { refusal = none; amount = n }
flat_amount (refused number index) = record { refusal = refusal number index; amount = 0 }

unfoldable pub flat_margin : Answer ℤ → Margin
flat_margin (answered m) = record { refusal = none; margin = m }
flat_margin (refused number index) = record { refusal = refusal number index; margin = pos 0 }

unfoldable pub flat_window : Answer Found → Window
flat_window (answered (at w)) = record { refusal = none; closes = true; window = w }
flat_window (answered nowhere) = record { refusal = none; closes = false; window = 0 }
flat_window (refused number index) = record { refusal = refusal number index; closes = false; window = 0 }
