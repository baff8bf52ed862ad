-- `respond` meets its contract: the recurrence from the frame's E up to its D, neither of which is past the ceiling.
-- Assumes nothing.
use mathlib.Core.Path.{◌∙◌}
use native.Mathlib.Omega.{arith}
use Rattle.table.specs.Ready.{table_in}
use Rattle.table.proofs.ReadyLaws.{table_proper}
use Rattle.response.proofs.AnswerLaws.{recurs_response}
use Rattle.response.proofs.rounds.respond.Goals as goal

pub recur-requires : goal.recur-requires
recur-requires c =
    let frame = c.frame_at-x.ensures in
    let has = c.requires in
    let task = (table_proper c.args.table.now).proper c.args.k has.task in (
      has.task,
      omega (arith, frame.e, task.short c.args.i has.frame),
      omega (arith, frame.d, task.soon c.args.i has.frame),
    )

pub returns : goal.returns
returns c =
    let frame = c.frame_at-x.ensures in
    recurs_response (table_in c.args.table.now) c.args.k c.args.i
    (c.from.ensures ∙ frame.e) (c.from-2.ensures ∙ frame.d) c.recur.ensures
