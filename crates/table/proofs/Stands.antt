-- Where each task stands, by the plan of a table that was read.
-- Assumes nothing.
use Prim.Native.Nat.{ℕ, ◌+◌, ◌-◌, ◌*◌, ◌≤◌, ◌<◌}
use mathlib.Core.Path.{◌≡◌, refl, sym, ap}
use mathlib.Core.List.{List}
use lib.ListN.{length, get_or}
use native.Mathlib.Omega.{arith}
use Rattle.laws.proofs.TabulateLaws.{tabulate_length, tabulate_at}
use Rattle.table.specs.declared.plan.Plan.{Plan}
use Rattle.table.specs.Bytes.{size, records}
use Rattle.table.specs.WellFormed.{WellFormed}
use Rattle.table.specs.TableOf.{records_before, records_of, task_of, table_of, plan_of}
use Rattle.table.proofs.Rising.{few_tasks}
use Rattle.table.proofs.Runs.{before_next, run_within, run_some, run_few}

-- task k stands from record `first` up to record `next`
pub record Planned (s : List ℕ) (k first next : ℕ) : Type 0 where
  pub first_is : first ≡ records_before (records s) s k
  pub frames_are : next - first ≡ records_of (records s) s k
  pub ordered : first ≤ next
  pub inside : next * size ≤ length s
  pub some : 1 ≤ next - first
  pub few : next - first ≤ 16
  pub task_is : (table_of s).task k ≡ task_of s first (next - first)

planned : {s : List ℕ} → WellFormed s → (k : ℕ) → k < (table_of s).tasks →
    Planned s k (records_before (records s) s k) (records_before (records s) s (k + 1))
planned {s} well k below =
    let ended = before_next (records s) s k in
    let within = run_within (records s) s k in
    let some = run_some well k below in
    let few = run_few well k in
    let first = records_before (records s) s k in
    let frames_are : records_before (records s) s (k + 1) - first ≡ records_of (records s) s k = omega arith in
    record {
      first_is = refl;
      frames_are = frames_are;
      ordered = omega arith;
      inside = omega arith;
      some = omega arith;
      few = omega arith;
      task_is = ap (task_of s first) (sym frames_are);
    }

-- a plan of these bytes: its place k is where task k begins, and place k + 1 where it ends
pub record Plans (s : List ℕ) (p : Plan) : Type 0 where
  pub tasks_are : p.tasks ≡ (table_of s).tasks
  pub long : length p.first ≡ 17
  pub stands : (k : ℕ) → k < (table_of s).tasks → Planned s k (get_or p.first k 0) (get_or p.first (k + 1) 0)

plan_at : (s : List ℕ) (n tasks k : ℕ) → k ≤ 16 → get_or (plan_of s n tasks).first k 0 ≡ records_before n s k
unfolding plan_of
plan_at s n tasks k within = tabulate_at 17 (records_before n s) k (omega arith)

plan_long : (s : List ℕ) (n tasks : ℕ) → length (plan_of s n tasks).first ≡ 17
unfolding plan_of
plan_long s n tasks = tabulate_length 17 (records_before n s)

plan_tasks : (s : List ℕ) (n tasks : ℕ) → (plan_of s n tasks).tasks ≡ tasks
unfolding plan_of
plan_tasks s n tasks = refl

plan_stands : {s : List ℕ} → WellFormed s → (tasks k : ℕ) → k < (table_of s).tasks →
    let p = plan_of s (records s) tasks in Planned s k (get_or p.first k 0) (get_or p.first (k + 1) 0)
plan_stands {s} well tasks k below =
    let few = few_tasks well in
    rw (plan_at s (records s) tasks k (omega arith), plan_at s (records s) tasks (k + 1) (omega arith))
    (planned well k below)

pub plans : {s : List ℕ} {p : Plan} → WellFormed s → p ≡ plan_of s (records s) (table_of s).tasks → Plans s p
plans {s} well is =
    let stands = plan_stands well (table_of s).tasks in
    rw is (record { tasks_are = plan_tasks s _ _; long = plan_long s _ _; stands = stands })
