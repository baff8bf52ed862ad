-- The replay and the jobs, over any order: where too much is due no run meets every deadline, and where every job is
-- done at its deadline none is missed.
-- Assumes nothing.
use mathlib.Core.Path.{◌≡◌}
use Prim.Native.Nat.{ℕ, ◌<◌}
use native.Mathlib.Nat.{le_refl}
use native.Mathlib.Omega.{arith}
use Rattle.model.specs.Jobs.{Jobs}
use Rattle.model.specs.Machine.{Order, Strict, left_at}
use Rattle.model.specs.Schedule.{Unfinished, TooMuch}
use Rattle.model.specs.Replay.{LateAt, Missed, Met}
use Rattle.model.specs.Service.{machine_serves}
use Rattle.model.proofs.MachineLaws.{left_mono}
use Rattle.model.proofs.ScheduleLaws.{no_schedule}
use Rattle.model.proofs.ServiceLaws.{service_gets}
use Rattle.model.proofs.MachineService.{machine}

-- a job that the machine's own schedule leaves short is late at its deadline
short_late : (jobs : Jobs) (before : Order) → Strict before → (short : Unfinished jobs (machine_serves jobs before))
    → LateAt jobs before (jobs.due short.job) short.job
short_late jobs before strict short =
    let k = short.job in
    let got = service_gets (machine jobs before strict) k short.inside (jobs.due k) in
    record { inside = short.inside; undone = omega (arith, short.short); over = le_refl (jobs.due k) }

pub too_much_misses : (jobs : Jobs) {before : Order} → Strict before → (a b : ℕ) → TooMuch jobs a b → (t : ℕ)
    → Met jobs before t → ⊥
too_much_misses jobs {before} strict a b too_much t met =
    let short = no_schedule jobs a b too_much (machine_serves jobs before) in
    met.on_time (jobs.due short.job) short.job (short_late jobs before strict short)

pub done_not_missed : (jobs : Jobs) (before : Order)
    → ((k : ℕ) → k < jobs.count → left_at jobs before (jobs.due k) k ≡ 0)
    → (t i : ℕ) → Missed jobs before t i → ⊥
done_not_missed jobs before done t i missed =
    let late = missed.misses.late in
    omega (arith, late.undone, done i late.inside, left_mono jobs before (jobs.due i) t i late.over)
