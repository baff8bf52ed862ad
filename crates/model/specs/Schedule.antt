-- Schedules of any kind, and what they give to jobs: what it is that a request "must be done by a + D" (document 01, "A
-- table, record by record"), and when so much is due that no schedule can do it.
-- Assumes nothing.
use Rattle.std.specs.Prelude.{Bool, false, ◌&&◌, ℕ, ◌-◌, ◌<◌, leb, eqb}
use Rattle.laws.specs.Sums.{sum, only}
use Rattle.laws.specs.Search.{Found, at, nowhere}
use Rattle.model.specs.Jobs.{Jobs}

-- any function from ticks to a job or none: a tick goes to one job at most
abbrev pub Schedule : Type 0
Schedule = ℕ → Found

-- whether a tick that goes to this job goes to job k
abbrev pub is_for : Found → ℕ → Bool
is_for (at b) k = eqb b k
is_for nowhere k = false

-- how many of the ticks from a on and before b go to job k
unfoldable pub units : Schedule → ℕ → ℕ → ℕ → ℕ
units schedule k a b = sum b (λ t. only (leb a t && is_for (schedule t) k) 1)

-- "A request arriving at a must be done by a + D": a job gets less than its amount from its release to its deadline
pub record Unfinished (jobs : Jobs) (schedule : Schedule) : Type 0 where
  pub job : ℕ
  pub inside : job < jobs.count
  pub short : units schedule job (jobs.release job) (jobs.due job) < jobs.amount job

-- what the jobs that are released at a or later and are due by b ask for
unfoldable pub due_within : Jobs → ℕ → ℕ → ℕ
due_within jobs a b =
    sum jobs.count (λ k. only (leb a (jobs.release k) && leb (jobs.due k) b) (jobs.amount k))

-- more is due between a and b than there are ticks
abbrev pub TooMuch : Jobs → ℕ → ℕ → Type 0
TooMuch jobs a b = b - a < due_within jobs a b
