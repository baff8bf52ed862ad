-- `list_size` meets its contract: the requests that are left before any is taken are the list's records.
-- Assumes nothing.
use mathlib.Core.Path.{sym}
use Rattle.table.specs.Ready.{table_in}
use Rattle.table.proofs.ReadyLaws.{ready_of, ready_few}
use Rattle.overload.proofs.FirstRuns.{first_size}
use Rattle.overload.proofs.overload.Overload.list_size.Goals as goal

pub returns : goal.returns
returns c =
    let list = c.args.self.now in
    let few = ready_few (ready_of list.table.now) in
    sym (first_size (table_in list.table.now) few list.t (rw c.first_lanes.ensures at c.count_left.ensures.is))
