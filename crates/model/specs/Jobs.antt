-- Jobs, which is all that a machine knows of requests: document 01, "A table, record by record".
-- Assumes nothing.
use Rattle.std.specs.Prelude.{ℕ, ◌+◌}
use Rattle.model.specs.Task.{Table}
use Rattle.model.specs.Request.{Requests}

-- `count` jobs by their number; each asks for `amount` ticks, from `release` on and before `due`. When its request
-- came, `arrive`, is for the orders alone: their last tie goes by it.
pub record Jobs : Type 0 where
  pub count : ℕ
  pub task : ℕ → ℕ
  pub arrive : ℕ → ℕ
  pub release : ℕ → ℕ
  pub due : ℕ → ℕ
  pub amount : ℕ → ℕ

-- "A request arriving at a must be done by a + D", and E is its run time. It may run from its arrival on.
abbrev pub jobs_of : Table → Requests → Jobs
jobs_of table list =
    record {
      count = list.count;
      task = λ k. (list.request k).task;
      arrive = λ k. (list.request k).arrival;
      release = λ k. (list.request k).arrival;
      due = λ k. (list.request k).arrival + (table.task (list.request k).task).D (list.request k).frame;
      amount = λ k. (table.task (list.request k).task).E (list.request k).frame;
    }

-- ---- the same jobs otherwise

-- with other amounts
abbrev pub with_amounts : Jobs → (ℕ → ℕ) → Jobs
with_amounts jobs amount =
    record {
      count = jobs.count;
      task = jobs.task;
      arrive = jobs.arrive;
      release = jobs.release;
      due = jobs.due;
      amount = amount;
    }

-- with the place of its task for each one's task: an order that goes by the task goes by the place
abbrev pub with_places : Jobs → (ℕ → ℕ) → Jobs
with_places jobs place =
    record {
      count = jobs.count;
      task = λ k. place (jobs.task k);
      arrive = jobs.arrive;
      release = jobs.release;
      due = jobs.due;
      amount = jobs.amount;
    }
