-- Small jobs that meet what the laws about jobs ask: B's list, of which too much is due by 2, two jobs that may run
-- later than they come, one job of K6's table, which passes, and jobs that pass also with other amounts or in other
-- places. Jobs are written (release, due, amount).
-- Assumes nothing.
use mathlib.Core.Path.{◌≡◌, refl}
use Prim.Native.Nat.{ℕ, zero, suc, ◌+◌, ◌-◌, ◌≤◌, ◌<◌}
use native.Mathlib.Omega.{arith}
use lib.Dec.{lit<, lit≤}
use Rattle.laws.specs.Sums.{sum}
use Rattle.laws.specs.Search.{at, nowhere}
use Rattle.model.specs.Jobs.{Jobs, with_amounts, with_places}
use Rattle.model.specs.Machine.{sooner, pick, left_at}
use Rattle.model.specs.Schedule.{units, Unfinished, due_within, TooMuch}
use Rattle.model.specs.Service.{machine_serves, Service, every_job, came, open_work, Busy, Passes}
use Rattle.model.proofs.OrderLaws.{sooner_strict}
use Rattle.model.proofs.MachineService.{machine}
use Rattle.model.proofs.EarliestLaws.{sooner_done}
use Rattle.model.proofs.PassesLaws.{together_passes, passes_less, passes_placed}

-- ---- B's list: (0,2,2) of task 0 and (0,2,1) of task 1

-- .. and with another deadline
abbrev pub two_due : ℕ → Jobs
two_due d = record { count = 2; task = λ k. k; arrive = λ k. 0; release = λ k. 0; due = λ k. d; amount = λ k. 2 - k }

abbrev pub two_jobs : Jobs
two_jobs = two_due 2

abbrev pub two_run : Service two_jobs
two_run = machine two_jobs (sooner two_jobs) (sooner_strict two_jobs)

pub record TooMany : Type 0 where
  pub too_much : TooMuch two_jobs 0 2
  -- the machine's own schedule leaves job 1 short
  pub unfinished : Unfinished two_jobs (machine_serves two_jobs (sooner two_jobs))
  pub is_second : unfinished.job ≡ 1
  -- and all jobs are busy from tick 0 on
  pub busy_all : Busy two_run every_job 2
  pub from_start : busy_all.from ≡ 0

-- what holds of 1 and of 2
one_and_two : (P : ℕ → Type 0) → P 1 → P 2 → (t : ℕ) → 0 < t → t ≤ 2 → P t
one_and_two P one two zero some within = absurd (omega arith)
one_and_two P one two (suc zero) some within = one
one_and_two P one two (suc (suc zero)) some within = two
one_and_two P one two (suc (suc (suc t))) some within = absurd (omega arith)

pub too_many_jobs : TooMany
unfolding due_within units open_work came left_at pick sooner sum
too_many_jobs =
    record {
      too_much = lit< tt;
      unfinished = record { job = 1; inside = lit< tt; short = lit< tt };
      is_second = refl;
      busy_all = record {
        from = 0;
        before = lit< tt;
        clear = refl;
        after = one_and_two (λ t. 0 < open_work two_run every_job t) (lit< tt) (lit< tt);
        more = one_and_two (λ x. x - 0 < came two_jobs every_job 0 x) (lit< tt) (lit< tt);
      };
      from_start = refl;
    }

-- ---- two jobs of one task with one deadline, that may not run when they come: (1,9,2), which comes at 1, and (2,9,1),
-- which comes at 0

abbrev pub kept_back : Jobs
kept_back =
    record {
      count = 2;
      task = λ k. 0;
      arrive = λ k. 1 - k;
      release = λ k. 1 + k;
      due = λ k. 9;
      amount = λ k. 2 - k;
    }

-- the second is there first and may run last: it is ready by its release, and then goes first by its arrival
pub record ReleasedFirst : Type 0 where
  pub none : machine_serves kept_back (sooner kept_back) 0 ≡ nowhere
  pub released : machine_serves kept_back (sooner kept_back) 1 ≡ at 0
  pub earlier : machine_serves kept_back (sooner kept_back) 2 ≡ at 1

pub released_first : ReleasedFirst
unfolding left_at pick sooner
released_first = record { none = refl; released = refl; earlier = refl }

-- ---- K6's table: (0,1,1)

abbrev pub one_job : Jobs
one_job = record { count = 1; task = λ k. 0; arrive = λ k. 0; release = λ k. 0; due = λ k. 1; amount = λ k. 1 }

one_passes : Passes one_job
unfolding sum
one_passes = together_passes one_job 1 (λ k. refl) (λ k. refl) (lit≤ tt) (lit< tt)

-- so it is done at 1
pub one_done : left_at one_job (sooner one_job) 1 0 ≡ 0
one_done = sooner_done one_job one_passes 0 (lit< tt)

-- ---- B's two, due at 3, pass: so each is done where both run for one tick only, and where task 1 is placed first

abbrev pub once : Jobs
once = with_amounts (two_due 3) (λ k. 1)

-- the second runs at 1 and not at 2
pub record EndsEarly : Type 0 where
  pub first : machine_serves once (sooner once) 0 ≡ at 0
  pub second : machine_serves once (sooner once) 1 ≡ at 1
  pub none : machine_serves once (sooner once) 2 ≡ nowhere
  pub done : (k : ℕ) → k < 2 → left_at once (sooner once) 3 k ≡ 0

abbrev pub turned_round : Jobs
turned_round = with_places (two_due 3) (λ task. 1 - task)

-- the second goes first
pub record PlacedFirst : Type 0 where
  pub second : machine_serves turned_round (sooner turned_round) 0 ≡ at 1
  pub first : machine_serves turned_round (sooner turned_round) 1 ≡ at 0
  pub done : (k : ℕ) → k < 2 → left_at turned_round (sooner turned_round) 3 k ≡ 0

two_pass : Passes (two_due 3)
unfolding sum
two_pass = together_passes (two_due 3) 3 (λ k. refl) (λ k. refl) (lit≤ tt) (lit< tt)

pub ends_early : EndsEarly
unfolding left_at pick sooner
ends_early =
    record {
      first = refl;
      second = refl;
      none = refl;
      done = sooner_done once (passes_less (two_due 3) (λ k. 1) (λ k inside. omega arith) two_pass);
    }

pub placed_first : PlacedFirst
unfolding left_at pick sooner
placed_first =
    record {
      second = refl;
      first = refl;
      done = sooner_done turned_round (passes_placed (two_due 3) (λ task. 1 - task) two_pass);
    }
