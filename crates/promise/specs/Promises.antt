-- The user's third demand: what *passed*, *overloaded* and *undecided* promise of the bytes that were judged so. The
-- first demand stands in Given and EveryQuestion, the second in Numbers; Demands puts the three together.
-- Assumes nothing.
use Rattle.std.specs.Prelude.{◌≡◌, List, ℕ, ◌+◌, ◌*◌, ◌≤◌, ◌<◌, length, take, drop}
use Rattle.model.specs.Task.{Table}
use Rattle.model.specs.Verdict.{horizon, Verdict, undecided}
use Rattle.model.specs.VerdictMeaning.{Undecided, Means}
use Rattle.model.specs.Request.{Requests, Legal}
use Rattle.model.specs.Jobs.{jobs_of}
use Rattle.model.specs.Machine.{sooner, left_at}
use Rattle.model.specs.Replay.{missed, all_met}
use Rattle.model.specs.Schedule.{Schedule, units, Unfinished}
use Rattle.model.specs.Service.{machine_serves}
use Rattle.model.specs.Weave.{Woven}
use Rattle.model.specs.Overload.{overload_runs}
use Rattle.model.specs.Answer.{answered}
use Rattle.table.specs.TableOf.{table_of}
use Rattle.requests.specs.Entry.{entry_size, most_requests, list_of}
use Rattle.requests.specs.Accepted.{Lawful, Accepted}
use Rattle.desk.specs.declared.answers.Written.{Written}
use Rattle.desk.specs.Questions.{verdict_asked, size_asked, overload_asked}
use Rattle.desk.specs.ListQuestions.{replay_asked}
use Rattle.desk.specs.FlatList.{FlatWrote}

-- ---- passed: "in every legal request list of any length the earliest-deadline machine finishes each request within
-- its deadline"

-- after as many ticks as a request's deadline the machine has nothing left of it
abbrev pub FinishesEach : Table → Requests → Type 0
FinishesEach table list =
    let jobs = jobs_of table list in
    (i : ℕ) → i < list.count → left_at jobs (sooner jobs) (jobs.due i) i ≡ 0

-- in the words of any schedule: the machine's own ticks from its release, its arrival, on and before its deadline are a
-- request's E
abbrev pub ServesEach : Table → Requests → Type 0
ServesEach table list =
    let jobs = jobs_of table list in
    (i : ℕ) → i < list.count
    → units (machine_serves jobs (sooner jobs)) i (jobs.release i) (jobs.due i) ≡ jobs.amount i

-- `replay` answers *all met*
pub record ReplaysMet (s list : List ℕ) : Type 0 where
  pub tick : ℕ
  pub is : replay_asked s list ≡ answered (all_met tick)

pub record Passed (s : List ℕ) : Type 0 where
  pub finishes : (list : Requests) → Legal (table_of s) list → FinishesEach (table_of s) list
  pub serves : (list : Requests) → Legal (table_of s) list → ServesEach (table_of s) list
  -- the bytes of a list that the bench accepts
  pub replays : (list : List ℕ) → Accepted (table_of s) list → ReplaysMet s list

-- ---- overloaded: "the list we write is legal and no schedule whatever can finish it"

-- `replay` answers a miss
pub record ReplaysMissed (s list : List ℕ) : Type 0 where
  pub tick : ℕ
  pub index : ℕ
  pub is : replay_asked s list ≡ answered (missed tick index)

-- whatever function from ticks to requests is taken, some request does not get its E ticks between its arrival and its
-- deadline
abbrev pub NoSchedule : Table → Requests → Type 0
NoSchedule table list = (schedule : Schedule) → Unfinished (jobs_of table list) schedule

-- of bytes that are overloaded at t
pub record OverloadShown (s : List ℕ) (t : ℕ) : Type 0 where
  pub list : List ℕ
  pub size_is : size_asked s ≡ answered (length list)
  -- these bytes are what the writer writes wherever there is room, and what a caller reads back where it has written
  pub written : (buffer : List ℕ) (place : ℕ) → place + length list ≤ length buffer
      → overload_asked s buffer place ≡ answered list
  pub read_back : (buffer : List ℕ) (place : ℕ) (r : Written) (after : List ℕ)
      → FlatWrote buffer place (overload_asked s buffer place) r after → r.refusal.number ≡ 0
      → take r.bytes (drop place after) ≡ list
  -- "For each task, from its start frame, the earliest arrivals, up to and including the last request whose deadline is
  -- at most t .. Sorted by arrival, then task number"
  pub woven : Woven (table_of s) (overload_runs (table_of s) t) (list_of list)
  pub legal : Legal (table_of s) (list_of list)
  pub no_schedule : NoSchedule (table_of s) (list_of list)
  -- the bench's rules 10 and 11, but for its limit of 128 records
  pub lawful : Lawful (table_of s) list
  pub taken : length list ≤ most_requests * entry_size → Accepted (table_of s) list
  pub replays : Accepted (table_of s) list → ReplaysMissed s list

-- ---- undecided: "only when no interval up to the limit is overloaded and no window up to the limit closes"

-- a verdict is answered exactly where what it means holds of the table; that holds of one verdict, and of no other
pub record JudgedRightly (s : List ℕ) : Type 0 where
  pub means : (v : Verdict) → verdict_asked s ≡ answered v → Means horizon (table_of s) v
  pub only : (v : Verdict) → Means horizon (table_of s) v → verdict_asked s ≡ answered v
  pub exclusive : (v u : Verdict) → Means horizon (table_of s) v → Means horizon (table_of s) u → v ≡ u
  pub complete : (v : Verdict) × Means horizon (table_of s) v
  -- so *undecided* exactly when every margin from 1 to the limit is at least zero and every window from 1 to it is open
  pub undecided_when : Undecided horizon (table_of s) → verdict_asked s ≡ answered undecided
  pub undecided_only : verdict_asked s ≡ answered undecided → Undecided horizon (table_of s)
