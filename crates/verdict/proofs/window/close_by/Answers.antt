-- `close_by` meets its contract: what was found is the least window that closes.
-- Assumes nothing.
use Rattle.std.proofs.Common.{rules, tests}
use native.Mathlib.Omega.{arith}
use Rattle.laws.proofs.FindLaws.{find_up_to}
use Rattle.model.specs.Verdict.{closing_window}
use Rattle.verdict.proofs.CloseTest.{close_test}
use Rattle.verdict.proofs.window.close_by.Goals as goal

pub returns : goal.returns
unfolding closing_window
returns c =
    let range = c.new.ensures in
    find_up_to _ _ 1 _ range.start (omega (arith, range.end)) range.exhausted c.find.ensures.ran
    (λ x b q k. search (rules, tests, close_test))
