-- *Overloaded* at the last t there is: (32769,65535,1) at 65,536, with margin -2, proved with no walk.
-- Assumes nothing.
use mathlib.Core.Path.{◌≡◌, refl}
use Prim.Native.Nat.{ℕ, zero, suc, ◌-◌, ◌*◌, ◌<◌}
use native.Mathlib.Omega.{arith}
use lib.Dec.{lit≤}
use lib.IntN.{negsuc}
use lib.ListN.{replicate, get_or, get_or-replicate}
use Rattle.model.specs.Demand.{all_demands}
use Rattle.model.specs.Verdict.{horizon, overloaded}
use Rattle.model.specs.VerdictMeaning as Meaning
use Rattle.model.specs.Answer.{answered}
use Rattle.model.proofs.ClosingLaws.{overloads_yes, overloads_no, below_zero, not_below}
use Rattle.model.proofs.LoneTask.{start_lone}
use Rattle.model.proofs.EachTick.{demands_each}
use Rattle.table.specs.TableOf.{table_of}
use Rattle.desk.specs.Questions.{verdict_asked}
use Rattle.promise.specs.Tables.{each_32769}
use Rattle.promise.proofs.LoneExample.{lone_good, lone_judged, each_32769_reads}

over_due : (t : ℕ) → all_demands (table_of each_32769) t ≡ (suc t - 65535) * 32769
over_due = demands_each (lone_good each_32769_reads) each_32769_reads.lone

over_starts : (k : ℕ) → k < 16 → k < (table_of each_32769).tasks
    → Meaning.StartsAt ((table_of each_32769).task k) 65536 (get_or (replicate 16 0) k 0)
over_starts zero few inside = start_lone (lone_good each_32769_reads) each_32769_reads.lone 65536
over_starts (suc k) few inside = absurd (omega (arith, each_32769_reads.lone.one_task))

over_means : Meaning.Overloaded horizon (table_of each_32769) 65536 (negsuc 1) (replicate 16 0)
unfolding horizon
over_means =
    let table = table_of each_32769 in
    record {
      from = lit≤ tt;
      within = lit≤ tt;
      below = below_zero table 65536 (overloads_yes table 65536 (omega (arith, over_due 65536)));
      least = λ u from less. not_below table u (overloads_no table u (omega (arith, over_due u)));
      margin_is = rw (over_due 65536) refl;
      sixteen = refl;
      each = over_starts;
      past = λ k few past. get_or-replicate {A = ℕ} 16 k 0 0 few;
    }

pub limit_judged : verdict_asked each_32769 ≡ answered (overloaded 65536 (negsuc 1) (replicate 16 0))
limit_judged = lone_judged each_32769_reads (overloaded 65536 (negsuc 1) (replicate 16 0)) over_means
