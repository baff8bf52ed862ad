-- The answers that `run` is asked for.
-- Assumes nothing.
use Rattle.std.proofs.Common.{rules}
use Rattle.model.specs.Replay.{last_tick}
use Rattle.bench.proofs.TickLaws.{tick_stopped}
use Rattle.bench.proofs.Ticking.{ticking_start, ticking_stop, ticking_on, ticking_end}
use Rattle.bench.proofs.state.Bench.run.Goals as goal

pub loop-init : goal.loop-init
loop-init c = ticking_start _

-- the bench is stopped
pub returns-in_default : goal.returns-in_default
returns-in_default c = ticking_stop c.loop.invariant (tick_stopped _ c.in_default.not-Running)

pub loop-preserved : goal.loop-preserved
unfolding last_tick
loop-preserved c = ticking_on c.loop.invariant (search rules) (search rules)

pub returns : goal.returns
unfolding last_tick
returns c = ticking_end c.loop.invariant (search rules)
