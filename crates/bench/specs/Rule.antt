-- The bench's tick, for every state: document 01, "The replay bench".
-- Assumes nothing.
use Rattle.std.specs.Prelude.{Bool, cond, ◌&&◌, List, ℕ, zero, suc, ◌+◌, ◌-◌, leb, ltb, get_or, set}
use Rattle.laws.specs.Search.{Found, at, nowhere, least_from}
use Rattle.model.specs.Jobs.{Jobs}
use Rattle.model.specs.Machine.{sooner, chosen}
use Rattle.model.specs.Replay.{last_tick}
use Rattle.requests.specs.Entry.{most_requests}
use Rattle.bench.specs.declared.state.Bench.{Bench}
use Rattle.bench.specs.declared.state.Outcome.{Outcome}
use Rattle.bench.specs.declared.state.Outcome.TheVariants.{Running, Missed, AllMet}

-- "The bench keeps 128 amounts left": the slots as jobs, with what each has left
abbrev pub slot_jobs : (left due arrive release task : List ℕ) → Jobs
slot_jobs left due arrive release task =
    record {
      count = most_requests;
      task = λ k. get_or task k 0;
      arrive = λ k. get_or arrive k 0;
      release = λ k. get_or release k 0;
      due = λ k. get_or due k 0;
      amount = λ k. get_or left k 0;
    }

abbrev pub jobs_in : Bench → Jobs
jobs_in b = slot_jobs b.left b.due b.arrive b.release b.task

abbrev pub has_left : List ℕ → ℕ → Bool
has_left left k = ltb 0 (get_or left k 0)

-- "At tick T, first any request with work left and deadline at most T is a miss": the one with the lowest index
abbrev pub is_late : (left due : List ℕ) → ℕ → ℕ → Bool
is_late left due t k = has_left left k && leb (get_or due k 0) t

unfoldable pub first_late : Bench → Found
first_late b = least_from (is_late b.left b.due b.tick) most_requests 0

unfoldable pub first_left : Bench → Found
first_left b = least_from (has_left b.left) most_requests 0

-- "the arrived, unfinished request with the earliest deadline, ties by lower task, then earlier arrival"
abbrev pub next_of : Jobs → ℕ → Found
next_of jobs t = chosen jobs (sooner jobs) t jobs.amount

unfoldable pub next_in : Bench → Found
next_in b = next_of (jobs_in b) b.tick

-- the same requests, at this tick, with these amounts left and this outcome
abbrev pub same_requests : Bench → ℕ → List ℕ → Outcome → Bench
same_requests b tick left outcome =
    record {
      tick = tick;
      left = left;
      due = b.due;
      arrive = b.arrive;
      release = b.release;
      task = b.task;
      outcome = outcome;
    }

-- the state with another outcome
abbrev pub with_outcome : Bench → Outcome → Bench
with_outcome b outcome = same_requests b b.tick b.left outcome

-- the state one tick on, with these amounts left
abbrev pub moved_on : Bench → List ℕ → Bench
moved_on b left = same_requests b (b.tick + 1) left b.outcome

-- "one unit goes to" it; "with none, the tick is idle"
abbrev pub less_one : List ℕ → Found → List ℕ
less_one left (at k) = set left k (get_or left k 0 - 1)
less_one left nowhere = left

-- the miss; "otherwise one unit", or all met where nothing is left
abbrev pub turned : Bench → Found → Found → Bench
turned b (at i) left = with_outcome b (Missed i)
turned b nowhere nowhere = with_outcome b AllMet
turned b nowhere (at k) = moved_on b (less_one b.left (next_in b))

-- "A stopped bench .. comes back from a tick unchanged, and so does a state past that last tick."
abbrev pub while_running : Outcome → Bench → Bench → Bench
while_running Running next b = next
while_running (Missed i) next b = b
while_running AllMet next b = b

unfoldable pub tick_of : Bench → Bench
tick_of b =
    while_running b.outcome (cond (ltb last_tick b.tick) b (turned b (first_late b) (first_left b))) b

-- n ticks on
unfoldable pub run_of : ℕ → Bench → Bench
run_of zero b = b
run_of (suc n) b = run_of n (tick_of b)
