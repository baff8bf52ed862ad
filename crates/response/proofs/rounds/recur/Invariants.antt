-- `recur` meets its contract. The invariant: the value is that of the round, and none before it passes `end` or is
-- repeated (`Recurring`). The measure is what the value has left to `end`: every turn raises it.
-- Assumes nothing.
use Prim.Native.Nat.{suc, ◌-◌}
use Rattle.model.specs.Response.{higher_share}
use Rattle.table.specs.Ready.{table_in}
use Rattle.response.proofs.AnswerLaws.{Recurring}
use Rattle.response.proofs.rounds.recur.Given as goal

abbrev pub invariant-loop-value : goal.invariant-loop-value
invariant-loop-value l = Recurring (higher_share (table_in l.table) l.k) l.start l.end l.value l.round

abbrev pub decreases-loop-value : goal.decreases-loop-value
decreases-loop-value l = suc l.end - l.value
