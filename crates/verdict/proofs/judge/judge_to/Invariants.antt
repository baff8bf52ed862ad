-- `judge_to` meets its contract. The invariant: what is left to try gives the verdict, and the least margin so far
-- (`Walking`).
-- Assumes nothing.
use Rattle.model.proofs.Walking.{Walking}
use Rattle.table.specs.Ready.{table_in}
use Rattle.verdict.proofs.judge.judge_to.Given as goal

abbrev pub invariant-loop-t : goal.invariant-loop-t
invariant-loop-t l = Walking (table_in l.table) l.limit l.t l.low l.at
