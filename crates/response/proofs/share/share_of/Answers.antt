-- `share_of` meets its contract: the sum from the peak frame, which is the start of the most work in one tick.
-- Assumes nothing.
use Rattle.table.proofs.ReadyLaws.{table_proper}
use Rattle.response.proofs.ShareWalkLaws.{share_counted}
use Rattle.response.proofs.share.share_of.Goals as goal

pub returns : goal.returns
returns c =
    share_counted ((table_proper c.args.table.now).proper c.args.k c.requires.0)
    c.peak_of-peak.ensures c.count_of.ensures
