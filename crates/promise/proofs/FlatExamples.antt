-- The flat verdicts of some tables, so that the promises to a caller are not about nothing: every number of a verdict
-- is met.
-- Assumes nothing.
use mathlib.Core.Path.{◌≡◌, refl, ap}
use mathlib.Core.List.{[]}
use lib.IntN.{pos, negsuc}
use lib.ListN.{replicate}
use Rattle.laws.specs.Reader.{read_all}
use Rattle.table.specs.TableReader.{reading_of}
use Rattle.desk.specs.Questions.{verdict_asked}
use Rattle.desk.specs.Flat.{none, refusal}
use Rattle.desk.specs.FlatVerdict.{flat_verdict}
use Rattle.promise.specs.Tables.{each_2, each_32769, longest}
use Rattle.promise.proofs.LimitExample.{limit_judged}
use Rattle.promise.proofs.LongestExample.{longest_judged}
use Rattle.promise.proofs.UndecidedExample.{each_2_judged}

-- (65535,65535,65535)
pub flat_longest : flat_verdict (verdict_asked longest)
    ≡ record { refusal = none; verdict = 2; t = 65535; margin = pos 0; window = 65535; starts = replicate 16 0 }
unfolding flat_verdict
flat_longest = ap flat_verdict longest_judged

-- (32769,65535,1)
pub flat_last : flat_verdict (verdict_asked each_32769)
    ≡ record { refusal = none; verdict = 1; t = 65536; margin = negsuc 1; window = 0; starts = replicate 16 0 }
unfolding flat_verdict
flat_last = ap flat_verdict limit_judged

-- (2,65535,1)
pub flat_two : flat_verdict (verdict_asked each_2)
    ≡ record { refusal = none; verdict = 3; t = 0; margin = pos 0; window = 0; starts = replicate 16 0 }
unfolding flat_verdict
flat_two = ap flat_verdict each_2_judged

-- no bytes
pub flat_empty : flat_verdict (verdict_asked [])
    ≡ record { refusal = refusal 1 0; verdict = 0; t = 0; margin = pos 0; window = 0; starts = replicate 16 0 }
unfolding flat_verdict verdict_asked reading_of read_all
flat_empty = refl
