-- 13 of A, which is not overloaded, where there is no room either; no refusal of B with its list; and a frame that is
-- late.
-- Assumes nothing.
use mathlib.Core.Path.{◌≡◌, refl}
use mathlib.Core.Logic.{inl, inr}
use mathlib.Core.List.{[]}
use Prim.Native.Nat.{ℕ}
use Rattle.laws.specs.Sums.{sum, greatest}
use Rattle.laws.specs.Search.{least_from}
use Rattle.laws.specs.Reader.{read_on, read_all}
use Rattle.model.specs.Demand.{frame, offset, counted}
use Rattle.model.specs.Response.{value, late, settles, settled_at, response_by, peak_frame, share_of, share_over, response_over, response}
use Rattle.model.specs.Answer.{answered}
use Rattle.table.specs.Bytes.{record_of}
use Rattle.table.specs.TableReader.{reading_of}
use Rattle.table.specs.TableOf.{records_before, records_of, task_of}
use Rattle.table.specs.Deadlines.{first_above}
use Rattle.desk.specs.Orders.{writing_order}
use Rattle.desk.specs.Questions.{response_asked}
use Rattle.promise.specs.Tables.{A, B, b_list}
use Rattle.promise.specs.Given.{Given, ListGiven}
use Rattle.promise.specs.Asked.{replay}
use Rattle.promise.specs.ExampleCases.{late_table}
use Rattle.promise.proofs.NamedLaws.{a_bytes, b_bytes, cited}
use Rattle.promise.proofs.ExactLaws.{answered_none}
use Rattle.promise.proofs.EveryLaws.{every_question}
use Rattle.promise.proofs.JudgedLaws.{judged_well, judged_means}
use Rattle.promise.proofs.OrdersRight.{calm_none}

pub a_unwritten : Given A (writing_order [] 1) 13 0
a_unwritten =
    let well = judged_well A cited.a_fits.0 in
    let calm = (judged_means A a_bytes cited.a_fits.0).calm in
    inr (record {
      table_good = well;
      breaks =
          inl (record {
            number_is = refl;
            fails = λ (t, over). calm_none A a_bytes well calm t over;
            carries = refl;
          });
    })

pub b_none : (number index : ℕ) → ListGiven B b_list number index → ⊥
b_none = answered_none (every_question B b_bytes (replay b_list)).exact cited.b_missed.0

-- (3,4,9) under (2,4,4) goes 3, 5
pub late_one : response_asked late_table 1 0 ≡ answered (late 5 1)
unfolding late_table response_asked reading_of read_all read_on record_of records_before records_of task_of first_above
    response response_over response_by settles settled_at value share_over share_of peak_frame counted offset frame sum
    greatest least_from
late_one = refl
