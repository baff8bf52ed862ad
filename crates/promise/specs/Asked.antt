-- Every question that may be asked of the bytes of a table, and a row for each: what the rules say to it, which
-- refusals the document gives it, what is asked of a table, how its answer is laid flat, and what it leaves in a lent
-- buffer. A new question is a line of `Question` and a row here, two lines in ContractRows, and a line in each list of
-- proofs/EachQuestion.
-- Assumes nothing.
use Rattle.std.specs.Prelude.{◌≡◌, List, [], ℕ, length}
use Rattle.model.specs.Task.{Table}
use Rattle.model.specs.Demand as Rule
use Rattle.model.specs.Request.{Requests}
use Rattle.model.specs.Response as Recurrence
use Rattle.model.specs.Verdict as Judge
use Rattle.model.specs.Answer.{Answer}
use Rattle.table.specs.Bytes.{records}
use Rattle.requests.specs.Entry.{list_of}
use Rattle.place.specs.Place.{buffer_after}
use Rattle.desk.specs.Orders.{TestOrder, table_only, time_order, task_order, frame_order, size_order, writing_order}
use Rattle.desk.specs.OverloadRules.{list_in}
use Rattle.desk.specs.Questions.{read_asked, demand_asked, work_asked, margin_asked, window_asked, verdict_asked, response_asked, size_asked, overload_asked}
use Rattle.desk.specs.ListQuestions.{counts, loads, replays, list_asked, load_asked, replay_asked}
use Rattle.promise.specs.Given.{Given, ListGiven}
use Rattle.promise.specs.Forms.{Form, shape_form, amount_form, margin_form, window_form, verdict_form, response_form}
use Rattle.promise.specs.ListForms.{size_form, written_form, listed_form, loading_form, ending_form}

pub data Question : Type 0 where
  read : Question
  demand : (task t : ℕ) → Question
  work : (task w : ℕ) → Question
  margin : (t : ℕ) → Question
  window : Question
  verdict : Question
  response : (task frame : ℕ) → Question
  overload_size : Question
  overload : (buffer : List ℕ) (place : ℕ) → Question
  list : (bytes : List ℕ) → Question
  load : (bytes : List ℕ) → Question
  replay : (bytes : List ℕ) → Question

pub record Row : Type 1 where
  pub Says : Type 0
  pub said : Answer Says
  pub Given : ℕ → ℕ → Type 0
  pub ask : Table → Says  -- what is asked of a table, by the document's definitions
  pub form : Form Says
  pub Lends : List ℕ → Type 0  -- what the other slice holds that the question is asked with, if it has one
  pub after : List ℕ  -- what a lent buffer holds afterwards; nothing where none is lent

abbrev of_table : {A : Type 0} → List ℕ → TestOrder → (Table → A) → Answer A → Form A → Row
of_table {A} s order ask said form =
    record {
      Says = A;
      said = said;
      Given = Given s order;
      ask = ask;
      form = form;
      Lends = λ other. Unit {0};
      after = [];
    }

abbrev of_list : {A : Type 0} → List ℕ → List ℕ → (Table → Requests → A) → Answer A → Form A → Row
of_list {A} s bytes ask said form =
    record {
      Says = A;
      said = said;
      Given = ListGiven s bytes;
      ask = λ table. ask table (list_of bytes);
      form = form;
      Lends = λ other. other ≡ bytes;
      after = [];
    }

abbrev pub row : List ℕ → Question → Row
row s read =
    of_table s table_only (λ table. record { records = records s; tasks = table.tasks }) (read_asked s) shape_form
row s (demand k t) =
    of_table s (task_order k t) (λ table. Rule.demand (table.task k) t) (demand_asked s k t) amount_form
row s (work k w) = of_table s (task_order k w) (λ table. Rule.work (table.task k) w) (work_asked s k w) amount_form
row s (margin t) = of_table s (time_order t) (λ table. Rule.margin table t) (margin_asked s t) margin_form
row s window = of_table s table_only (Judge.closing_window Judge.horizon) (window_asked s) window_form
row s verdict = of_table s table_only (Judge.verdict Judge.horizon) (verdict_asked s) verdict_form
row s (response k i) =
    of_table s (frame_order k i) (λ table. Recurrence.response table k i) (response_asked s k i) response_form
row s overload_size = of_table s size_order (λ table. length (list_in table)) (size_asked s) size_form
row s (overload buffer place) =
    record {
      Says = List ℕ;
      said = overload_asked s buffer place;
      Given = Given s (writing_order buffer place);
      ask = list_in;
      form = written_form;
      Lends = λ other. other ≡ buffer;
      after = buffer_after buffer place (overload_asked s buffer place);
    }
row s (list bytes) = of_list s bytes counts (list_asked s bytes) listed_form
row s (load bytes) = of_list s bytes loads (load_asked s bytes) loading_form
row s (replay bytes) = of_list s bytes replays (replay_asked s bytes) ending_form
