-- `add_shares` meets its contract. The invariant: the sum is that of the higher tasks so far (`Adding`).
-- Assumes nothing.
use Rattle.laws.proofs.Adding.{Adding}
use Rattle.table.specs.Ready.{table_in}
use Rattle.sums.specs.Sized.{bound}
use Rattle.response.proofs.ShareWalkLaws.{shares}
use Rattle.response.proofs.share.add_shares.Given as goal

abbrev pub invariant-loop-j : goal.invariant-loop-j
invariant-loop-j l = Adding (shares (table_in l.table) l.w) (bound l.w) l.k l.sum l.j
