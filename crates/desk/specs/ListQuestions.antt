-- The meaning of each question about a request list, on raw bytes: document 01, "The replay bench" and "When the desk
-- says no": "Tables are tested first .. or, for a list, length, then records in order, in each record 10 before 11."
-- Assumes nothing.
use Rattle.std.specs.Prelude.{ℕ, List, Result, Ok, Err}
use Rattle.model.specs.Task.{Table}
use Rattle.model.specs.Request.{Requests}
use Rattle.model.specs.Jobs.{jobs_of}
use Rattle.model.specs.Replay.{Replayed}
use Rattle.model.specs.Answer.{Answer, answered, refused}
use Rattle.table.specs.declared.fault.Refusal.{Refusal}
use Rattle.requests.specs.Entry.{list_of}
use Rattle.requests.specs.ListReader.{check_of}
use Rattle.bench.specs.declared.state.Bench.{Bench}
use Rattle.bench.specs.Loaded.{loaded, replay_of}
use Rattle.desk.specs.Questions.{on_table}

-- the list's own refusal, 10 or 11; else what is said of a list
abbrev pub after_check : {A : Type 0} → Result ℕ Refusal → Answer A → Answer A
after_check (Ok n) said = said
after_check (Err r) said = refused r.number r.index

abbrev pub by_list : {A : Type 0} → List ℕ → (Table → Requests → A) → Table → Answer A
by_list list ask table = after_check (check_of table list) (answered (ask table (list_of list)))

abbrev pub on_list : {A : Type 0} → List ℕ → List ℕ → (Table → Requests → A) → Answer A
on_list s list ask = on_table s (by_list list ask)

-- how many requests a list has, and the bench that is loaded with it
pub record Loading : Type 0 where
  pub records : ℕ
  pub bench : Bench

-- what is asked of a legal list: how many requests it has, that with the bench that is loaded with it, its replay
abbrev pub counts : Table → Requests → ℕ
counts table requests = requests.count

abbrev pub loads : Table → Requests → Loading
loads table requests = record { records = requests.count; bench = loaded (jobs_of table requests) }

abbrev pub replays : Table → Requests → Replayed
replays table requests = replay_of (jobs_of table requests)

-- ---- the questions

unfoldable pub list_asked : List ℕ → List ℕ → Answer ℕ
list_asked s list = on_list s list counts

unfoldable pub load_asked : List ℕ → List ℕ → Answer Loading
load_asked s list = on_list s list loads

unfoldable pub replay_asked : List ℕ → List ℕ → Answer Replayed
replay_asked s list = on_list s list replays
