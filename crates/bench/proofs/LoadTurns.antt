-- The loop that loads the bench: before request i it is loaded with the first i jobs.
-- Assumes nothing.
use mathlib.Core.Path.{◌≡◌, sym, ◌∙◌, ap}
use Prim.Native.Nat.{ℕ, ◌+◌, ◌<◌}
use native.Mathlib.Omega.{arith}
use lib.ListN.{length, get_or, set, length-set}
use lib.Seq.{ext_get_or}
use Rattle.std.proofs.lemmas.Grind.{common_steps}
use Rattle.laws.specs.Sums.{tabulate}
use Rattle.model.specs.Jobs.{Jobs}
use Rattle.requests.specs.Entry.{most_requests}
use Rattle.bench.specs.declared.state.Bench.{Bench}
use Rattle.bench.specs.Loaded.{slots_of, loaded, no_jobs}
use Rattle.bench.proofs.LoadedLaws.{slots_length, slots_at, slots_past}

-- ---- one array

pub slots_turn : (f : ℕ → ℕ) (i : ℕ) {v : ℕ} → i < most_requests → v ≡ f i → set (slots_of i f) i v ≡ slots_of (i + 1) f
slots_turn f i {v} room is =
    ext_get_or 0 (set (slots_of i f) i v) (slots_of (i + 1) f) (long ∙ sym (slots_length (i + 1) f)) each
  where
    long : length (set (slots_of i f) i v) ≡ most_requests
    long = length-set (slots_of i f) i v ∙ slots_length i f

    each : (k : ℕ) → k < length (set (slots_of i f) i v)
        → get_or (set (slots_of i f) i v) k 0 ≡ get_or (slots_of (i + 1) f) k 0
    each k within = grind (arith, common_steps, slots_at, slots_past, slots_length)

-- ---- the bench

-- the first i of the jobs
abbrev pub first_jobs : ℕ → Jobs → Jobs
first_jobs i jobs = record jobs { count = i }

-- what request i puts into its slot
pub record SlotIs (jobs : Jobs) (i left due arrive release task : ℕ) : Type 0 where
  pub left_is : left ≡ jobs.amount i
  pub due_is : due ≡ jobs.due i
  pub arrive_is : arrive ≡ jobs.arrive i
  pub release_is : release ≡ jobs.release i
  pub task_is : task ≡ jobs.task i

-- the bench is loaded with the first i jobs
pub record LoadingTo (jobs : Jobs) (i : ℕ) (b : Bench) : Type 0 where
  pub bench_is : b ≡ loaded (first_jobs i jobs)

pub loading_start : (jobs : Jobs) {b : Bench} → b ≡ loaded no_jobs → LoadingTo jobs 0 b
unfolding loaded slots_of tabulate
loading_start jobs none = record { bench_is = none }

module _ {jobs : Jobs} {i : ℕ} {b : Bench} (so_far : LoadingTo jobs i b) where
  pub loading_turn : {left due arrive release task : ℕ} → i < most_requests
      → SlotIs jobs i left due arrive release task
      → LoadingTo jobs (i + 1) (
      record b {
        left = set b.left i left;
        due = set b.due i due;
        arrive = set b.arrive i arrive;
        release = set b.release i release;
        task = set b.task i task;
      }
      )
  unfolding loaded
  loading_turn room is =
      record {
        bench_is =
            rw (
              so_far.bench_is,
              slots_turn jobs.amount i room is.left_is,
              slots_turn jobs.due i room is.due_is,
              slots_turn jobs.arrive i room is.arrive_is,
              slots_turn jobs.release i room is.release_is,
              slots_turn jobs.task i room is.task_is,
            );
      }

  pub loading_done : i ≡ jobs.count → b ≡ loaded jobs
  loading_done all = so_far.bench_is ∙ ap (λ n. loaded (first_jobs n jobs)) all
