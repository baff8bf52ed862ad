-- Every case of specs/Cases.antt is refused as it says: one computed test of the whole table. So by the exact refusals
-- its refusal is the one it is given.
-- Assumes nothing.
use mathlib.Core.Bool.{Bool, false}
use mathlib.Core.Path.{◌≡◌}
use Prim.Native.Nat.{ℕ}
use lib.Dec.{T}
use Rattle.laws.specs.Sums.{sum, greatest}
use Rattle.laws.specs.Search.{least_from, up_to_last}
use Rattle.laws.specs.Reader.{read_on, read_all}
use Rattle.laws.proofs.Every.{every}
use Rattle.model.specs.Demand.{frame, offset, counted, lowest, demand, all_demands}
use Rattle.model.specs.Request.{last_arrival}
use Rattle.model.specs.Verdict.{horizon, overloads, first_overload, overloaded_at, verdict}
use Rattle.model.specs.Weave.{foremost, taken_by, next_at, weave}
use Rattle.model.specs.Overload.{requests_by, overload_list}
use Rattle.model.specs.Answer.{Answer, refused}
use Rattle.table.specs.Bytes.{Bytes, record_of}
use Rattle.table.specs.TableReader.{reading_of}
use Rattle.table.specs.TableOf.{records_before, records_of, task_of}
use Rattle.requests.specs.Entry.{entry_of, bytes_to}
use Rattle.requests.specs.ListReader.{check_of}
use Rattle.place.specs.Place.{fitted}
use Rattle.table.specs.Deadlines.{first_above}
use Rattle.desk.specs.Questions.{demand_asked, work_asked, margin_asked, verdict_asked, response_asked, overload_asked}
use Rattle.desk.specs.ListQuestions.{replay_asked}
use Rattle.promise.specs.Tables.{A, B, twenty}
use Rattle.promise.specs.Asked.{row}
use Rattle.promise.specs.RefusalCases.{Case, IsGiven, times, tasks, cases, CasesGiven}
use Rattle.promise.proofs.SameLaws.{same_answer, same_answer_is}
use Rattle.promise.proofs.RowLaws.{is_byte, right, rows_right}
use Rattle.promise.proofs.EveryLaws.{every_question}

-- the answer is this refusal
gets : {A : Type 0} → ℕ → ℕ → Answer A → Bool
gets number index said = same_answer (λ a b. false) said (refused number index)

gets_is : {A : Type 0} (number index : ℕ) (said : Answer A) → T (gets number index said)
    → said ≡ refused number index
unfolding gets
gets_is number index said = same_answer_is (λ a b. false) (λ a b h. absurd h) said (refused number index)

is_refused : Case → Bool
is_refused c = gets c.number c.index (row c.bytes c.question).said

refused_given : (c : Case) → Bytes c.bytes → T (is_refused c) → IsGiven c
unfolding is_refused
refused_given c bytes h =
    let said = (row c.bytes c.question).said in
    (every_question c.bytes bytes c.question).exact.only c.number c.index
    (gets_is c.number c.index said h)

all_right : T (every (right (λ c. c.bytes) is_refused) cases)
unfolding cases right is_refused gets is_byte every same_answer A B twenty times tasks
    demand_asked work_asked margin_asked verdict_asked response_asked replay_asked overload_asked
    reading_of read_all read_on record_of records_before records_of task_of
    check_of entry_of last_arrival first_above horizon sum least_from frame
    verdict first_overload overloads overloaded_at demand all_demands greatest counted offset lowest
    fitted overload_list weave next_at taken_by foremost requests_by up_to_last bytes_to
all_right = tt

pub cases_given : CasesGiven
cases_given = rows_right (λ c. c.bytes) is_refused IsGiven refused_given cases all_right
