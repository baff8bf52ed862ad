-- The answers that `add_shares` is asked for.
-- Assumes nothing.
use native.Mathlib.Omega.{arith}
use Rattle.std.proofs.Common.{rules}
use Rattle.laws.proofs.Adding.{adding_none, adding_room, adding_on}
use Rattle.table.proofs.ReadyLaws.{ready_of, ready_few}
use Rattle.response.proofs.ShareWalkLaws.{shares_added}
use Rattle.response.proofs.share.add_shares.Goals as goal

pub loop-j-init : goal.loop-j-init
loop-j-init c = adding_none _ _ _

-- fewer than sixteen tasks stand above one of sixteen, and w is not past the ceiling: far below 2 ^ 64
pub overflow_add-sum : goal.overflow_add-sum
overflow_add-sum c =
    let few = ready_few (ready_of c.args.table.now) in
    omega (arith, adding_room c.loop-j.invariant 16 (omega arith), c.share_of-sum.ensures.at_most)

pub loop-j-preserved : goal.loop-j-preserved
loop-j-preserved c =
    let share = c.share_of-sum.ensures in
    adding_on c.loop-j.invariant (search rules) share.is share.at_most

pub returns : goal.returns
returns c =
    shares_added c.loop-j.invariant (omega (arith, c.requires.0)) (ready_few (ready_of c.args.table.now)) (search rules)
