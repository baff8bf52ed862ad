-- `requests::list_rules::Carry::after` meets its contract: the record's task has one of the 16 places.
-- Assumes nothing.
use native.Mathlib.Omega.{arith}
use Rattle.requests.proofs.PlacedLaws.{known_low}
use Rattle.requests.proofs.list_rules.Carry.after.Goals as goal

pub bounds-self-from : goal.bounds-self-from
bounds-self-from c = omega (arith, known_low c.args.table.now c.requires)
