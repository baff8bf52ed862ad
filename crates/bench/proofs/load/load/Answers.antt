-- The answers that `bench::load::load` is asked for. An arrival within the limit plus a D of 16 bits fits 32.
-- Assumes nothing.
use mathlib.Core.Path.{ap}
use Rattle.std.proofs.Common.{arith}
use Rattle.model.specs.Request.{last_arrival}
use Rattle.requests.specs.declared.entry.Entry.{Entry}
use Rattle.requests.proofs.AcceptedLaws.{accepted_few, accepted_near}
use Rattle.bench.proofs.LoadTurns.{loading_start, loading_turn, loading_done}
use Rattle.bench.proofs.load.load.Goals as goal

pub loop-i-init : goal.loop-i-init
loop-i-init c = loading_start _ c.empty-bench.ensures

pub overflow_add-bench : goal.overflow_add-bench
unfolding last_arrival
overflow_add-bench c =
    omega (
      arith,
      accepted_near c.requires.accepted c.loop-i.i (omega arith),
      ap (λ (x : Entry). x.arrival) c.entry_at-x.ensures,
    )

pub loop-i-preserved : goal.loop-i-preserved
loop-i-preserved c =
    loading_turn c.loop-i.invariant (omega (arith, accepted_few c.requires.accepted))
    (record { left_is = cc; due_is = cc; arrive_is = cc; release_is = cc; task_is = cc })

pub returns : goal.returns
returns c = loading_done c.loop-i.invariant (omega arith)
