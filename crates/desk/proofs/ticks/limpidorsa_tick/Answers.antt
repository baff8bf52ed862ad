-- `limpidorsa_tick` meets its contract: a bench that has stopped or is past the last tick comes back, any other is
-- ticked.
-- Assumes nothing.
use Rattle.std.proofs.Common.{rules}
use Rattle.model.specs.Replay.{last_tick}
use Rattle.desk.proofs.FlatTickLaws.{flat_tick_stopped, flat_tick_past, flat_tick_running}
use Rattle.desk.proofs.ticks.limpidorsa_tick.Goals as goal

pub returns-then-state-ne-RUNNING : goal.returns-then-state-ne-RUNNING
returns-then-state-ne-RUNNING c = flat_tick_stopped _ (search rules)

pub returns-then-state-gt-LAST_TICK : goal.returns-then-state-gt-LAST_TICK
unfolding last_tick
returns-then-state-gt-LAST_TICK c = flat_tick_past _ (search rules) c.if-state-gt-LAST_TICK.true

pub returns : goal.returns
unfolding last_tick
returns c = flat_tick_running _ (search rules) (search rules) c.running.ensures c.tick.ensures c.from.ensures
