-- The user's second demand, "The numbers are those the published models define": what each question is answered where
-- nothing is refused, by document 01's definitions. That the answers are settled in every part is EveryQuestion; the
-- named numbers are Named.
-- Assumes nothing.
use Rattle.std.specs.Prelude.{◌≡◌, List, ℕ, ◌≤◌, ◌<◌, pos}
use Rattle.laws.specs.Search.{Found}
use Rattle.model.specs.Demand.{demand, work, margin}
use Rattle.model.specs.Verdict.{horizon, closing_window, verdict}
use Rattle.model.specs.VerdictMeaning.{WindowSays}
use Rattle.model.specs.Request.{HasFrame}
use Rattle.model.specs.Jobs.{jobs_of}
use Rattle.model.specs.Machine.{sooner}
use Rattle.model.specs.Replay.{Replayed, ReplaySays}
use Rattle.model.specs.Response.{Response, higher_share, response}
use Rattle.model.specs.ResponseMeaning.{ResponseSays}
use Rattle.model.specs.Answer.{answered}
use Rattle.table.specs.Bytes.{records}
use Rattle.table.specs.TableOf.{table_of}
use Rattle.requests.specs.Entry.{entries, list_of}
use Rattle.requests.specs.Accepted.{Accepted}
use Rattle.table.specs.Deadlines.{WithinP}
use Rattle.desk.specs.Questions.{read_asked, demand_asked, work_asked, margin_asked, window_asked, verdict_asked, response_asked}
use Rattle.desk.specs.ListQuestions.{list_asked, replay_asked}
use Rattle.promise.specs.Bench.{LoadedRightly}

-- the bench's answer, which says of the machine what document 01 says
pub record ReplayedRightly (s list : List ℕ) : Type 0 where
  pub answer : Replayed
  pub is : replay_asked s list ≡ answered answer
  pub says : let jobs = jobs_of (table_of s) (list_of list) in ReplaySays jobs (sooner jobs) answer

-- of bytes that are a table
pub record Numbers (s : List ℕ) : Type 0 where
  pub reads : read_asked s ≡ answered (record { records = records s; tasks = (table_of s).tasks })
  pub demands : (k t : ℕ) → k < (table_of s).tasks → t ≤ horizon
      → demand_asked s k t ≡ answered (demand ((table_of s).task k) t)
  pub works : (k w : ℕ) → k < (table_of s).tasks → w ≤ horizon
      → work_asked s k w ≡ answered (work ((table_of s).task k) w)
  -- "a signed number": below zero is an answer
  pub margins : (t : ℕ) → t ≤ horizon → margin_asked s t ≡ answered (margin (table_of s) t)
  pub margin_at_0 : margin_asked s 0 ≡ answered (pos 0)
  pub window : window_asked s ≡ answered (closing_window horizon (table_of s))
  pub window_says : (w : Found) → window_asked s ≡ answered w → WindowSays horizon (table_of s) w
  pub verdict_is : verdict_asked s ≡ answered (verdict horizon (table_of s))
  -- "The desk .. gives fixed-priority response times": of a table with every D at most its P
  pub responses : (k i : ℕ) → HasFrame (table_of s) k i → WithinP s (records s)
      → response_asked s k i ≡ answered (response (table_of s) k i)
  -- which says of the recurrence what the document says: a value that repeats, or passes D, and its index
  pub responses_say : (k i : ℕ) (r : Response) → response_asked s k i ≡ answered r
      → ResponseSays (higher_share (table_of s) k) (((table_of s).task k).E i) (((table_of s).task k).D i) r
  -- and whatever says that of a frame is its answer
  pub responses_only : (k i : ℕ) (r : Response) → HasFrame (table_of s) k i → WithinP s (records s)
      → ResponseSays (higher_share (table_of s) k) (((table_of s).task k).E i) (((table_of s).task k).D i) r
      → response_asked s k i ≡ answered r
  -- of bytes that are a list of the table
  pub counts : (list : List ℕ) → Accepted (table_of s) list → list_asked s list ≡ answered (entries list)
  pub loads : (list : List ℕ) → Accepted (table_of s) list → LoadedRightly s list
  pub replays : (list : List ℕ) → Accepted (table_of s) list → ReplayedRightly s list
  pub replays_only : (list : List ℕ) (r : Replayed) → Accepted (table_of s) list
      → (let jobs = jobs_of (table_of s) (list_of list) in ReplaySays jobs (sooner jobs) r)
      → replay_asked s list ≡ answered r
