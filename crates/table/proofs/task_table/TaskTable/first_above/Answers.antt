-- `first_above` meets its contract: `find` answers the first record with D above its P.
-- Assumes nothing.
use Rattle.std.proofs.Common.{rules, tests, sym}
use Rattle.std.proofs.iter.Serving.{serving}
use Rattle.laws.proofs.FindLaws.{find_below}
use Rattle.table.specs.Deadlines.{first_above}
use Rattle.table.proofs.ReadyLaws.{read_shaped}
use Rattle.table.proofs.task_table.TaskTable.first_above.Goals as goal

pub find-requires-clause-callable : goal.find-requires-clause-callable
find-requires-clause-callable c = grind (serving, (read_shaped c.args.self.now).inside)

pub returns : goal.returns
unfolding first_above
returns c =
    rw (sym (read_shaped c.args.self.now).records_are)
    (find_below _ _ _ c.find.ensures.ran (λ x b q k. search (rules, tests)))
