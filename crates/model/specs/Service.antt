-- What a machine does with jobs, tick by tick, in words that any machine can be held to; which classes of jobs it
-- prefers; and the busy interval of a class. Nothing here knows a table or where the amounts come from, and any order
-- will do.
-- Assumes nothing.
use Rattle.std.specs.Prelude.{Bool, true, false, ◌&&◌, ◌≡◌, ℕ, suc, ◌+◌, ◌-◌, ◌≤◌, ◌<◌, leb, ltb}
use Rattle.laws.specs.Sums.{sum, only}
use Rattle.laws.specs.Search.{Found, at}
use Rattle.model.specs.Jobs.{Jobs}
use Rattle.model.specs.Machine.{Order, chosen, give, left_at}
use Rattle.model.specs.Tick.{Pending}
use Rattle.model.specs.Schedule.{Schedule, due_within}

-- a run of a machine
pub record Service (jobs : Jobs) : Type 0 where
  pub left : ℕ → ℕ → ℕ  -- left t k: what job k has left before tick t
  pub serves : Schedule  -- the job of each tick
  pub start : (k : ℕ) → k < jobs.count → left 0 k ≡ jobs.amount k
  pub step : (t k : ℕ) → k < jobs.count → left (suc t) k ≡ give (serves t) (left t) k
  pub ready : (t k : ℕ) → serves t ≡ at k → Pending jobs t (left t) k

-- the machine of the replay bench as a schedule, over any order
abbrev pub machine_serves : Jobs → Order → Schedule
machine_serves jobs before t = chosen jobs before t (left_at jobs before t)

-- ---- classes of jobs

abbrev pub Class : Type 0
Class = ℕ → Bool

-- all jobs
abbrev pub every_job : Class
every_job k = true

-- the jobs due by d
abbrev pub due_up_to : Jobs → ℕ → Class
due_up_to jobs d k = leb (jobs.due k) d

-- the tick goes to a job of the class
pub record Serves (class : Class) (served : Found) : Type 0 where
  pub job : ℕ
  pub is : served ≡ at job
  pub in_class : class job ≡ true

-- before tick d, a tick at which a job of the class is released and not done goes to one of the class
abbrev pub Prefers : {jobs : Jobs} → Service jobs → Class → ℕ → Type 0
Prefers {jobs} service class d =
    (t k : ℕ) → t < d → class k ≡ true → Pending jobs t (service.left t) k → Serves class (service.serves t)

-- every job of the class goes before every one that is not: what one of the class does not go before is of the class
abbrev pub Leads : Order → Class → Type 0
Leads before class = (i j : ℕ) → class j ≡ true → before j i ≡ false → class i ≡ true

-- ---- the busy interval

-- the work of the class that is released at q or later and before x
unfoldable pub came : Jobs → Class → ℕ → ℕ → ℕ
came jobs class q x =
    sum jobs.count (λ k. only (class k && (leb q (jobs.release k) && ltb (jobs.release k) x)) (jobs.amount k))

-- what is left before tick t of the work of the class that was released before t
unfoldable pub open_work : {jobs : Jobs} → Service jobs → Class → ℕ → ℕ
open_work {jobs} service class t =
    sum jobs.count (λ k. only (class k && ltb (jobs.release k) t) (service.left t k))

-- the class was last clear before tick `from`; since then some of it was always left, and at every x up to d more of it
-- had come than there were ticks
pub record Busy {jobs : Jobs} (service : Service jobs) (class : Class) (d : ℕ) : Type 0 where
  pub from : ℕ
  pub before : from < d
  pub clear : open_work service class from ≡ 0
  pub after : (t : ℕ) → from < t → t ≤ d → 0 < open_work service class t
  pub more : (x : ℕ) → from < x → x ≤ d → x - from < came jobs class from x

-- ---- what jobs must keep to, that the earliest-deadline machine finishes them all

pub record Passes (jobs : Jobs) : Type 0 where
  pub lasts : (k : ℕ) → k < jobs.count → jobs.release k < jobs.due k
  -- no more is due in any interval than it has ticks
  pub calm : (a t : ℕ) → due_within jobs a (a + t) ≤ t
