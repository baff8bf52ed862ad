-- `requests::list_rules::Turn::after` meets its contract: the task's records are as many as its frames.
-- Assumes nothing.
use native.Mathlib.Omega.{arith}
use Rattle.model.specs.Demand.{frame}
use Rattle.table.proofs.ReadyLaws.{run_has, run_frames}
use Rattle.requests.proofs.list_rules.Turn.after.Goals as goal

pub next-requires : goal.next-requires
next-requires c =
    let is = rw c.from.ensures at c.task-task.ensures in
    omega (arith, run_has c.task-task.result is c.requires.frame)

pub frame-requires : goal.frame-requires
frame-requires c =
    let is = rw c.from.ensures at c.task-task.ensures in
    omega (arith, run_has c.task-task.result is c.requires.frame)

pub returns : goal.returns
unfolding frame
returns c =
    let is = rw c.from.ensures at c.task-task.ensures in
    let counted = (run_frames c.task-task.result is).is in
    let here = rw (is, c.from-frame.ensures) at c.frame.ensures.p in
    cc
