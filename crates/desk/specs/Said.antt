-- What is said of a question as the code's value: the answer, or the refusal.
-- Assumes nothing.
use Rattle.std.specs.Prelude.{ℕ, List, Result, Ok, Err}
use Rattle.model.specs.Answer.{Answer, answered, refused}
use Rattle.table.specs.Faults.{refusal_at}
use Rattle.table.specs.declared.fault.Refusal.{Refusal}
use Rattle.bench.specs.declared.state.Bench.{Bench}
use Rattle.overload.specs.declared.overload.Overload.{Overload}
use Rattle.overload.specs.Listed.{list_bytes}
use Rattle.desk.specs.ListQuestions.{Loading}

-- where the code has a value of its own for the answer
abbrev pub result_by : {A B : Type 0} → (A → B) → Answer A → Result B Refusal
result_by value (answered x) = Ok (value x)
result_by value (refused number index) = Err (refusal_at number index)

abbrev pub result_of : {A : Type 0} → Answer A → Result A Refusal
result_of answer = result_by (λ x. x) answer

-- the list of the overload that was found
abbrev pub list_found : Result Overload Refusal → Result (List ℕ) Refusal
list_found (Ok overload) = Ok (list_bytes overload)
list_found (Err refusal) = Err refusal

abbrev pub loading_pair : Loading → ℕ × Bench
loading_pair x = (x.records, x.bench)
