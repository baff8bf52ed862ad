-- *Fits* with a window of 65,535 and margin 0 there: (65535,65535,65535), proved with no walk. Up to its P one request
-- of the task counts, or none.
-- Assumes nothing.
use mathlib.Core.Path.{◌≡◌, refl, sym, ◌∙◌}
use Prim.Native.Nat.{ℕ, ◌≤◌, ◌<◌}
use native.Mathlib.Omega.{arith}
use lib.Dec.{leb, lit≤}
use lib.IntN.{pos}
use lib.Signed.{◌<ℤ◌}
use borrow.Author.Tests.{lt-ltb}
use Rattle.laws.specs.Sums.{sum, only}
use Rattle.laws.proofs.SumLaws.{gate}
use Rattle.laws.proofs.SignedLaws.{sub_zero_is}
use Rattle.laws.proofs.SignedOrder.{lt_test}
use Rattle.model.specs.Demand.{all_demands, all_work, margin}
use Rattle.model.specs.Verdict.{horizon, fits}
use Rattle.model.specs.VerdictMeaning as Meaning
use Rattle.model.specs.Answer.{answered}
use Rattle.model.proofs.DemandLaws.{demand_moves, work_moves}
use Rattle.model.proofs.ClosingLaws.{overloads_no, not_below, calm_always}
use Rattle.model.proofs.LoneTask.{counted_first, lone_proper, work_lone, demands_lone}
use Rattle.table.specs.Bytes.{record_of}
use Rattle.table.specs.TableOf.{records_before, records_of, task_of, table_of}
use Rattle.desk.specs.Questions.{verdict_asked}
use Rattle.promise.specs.Tables.{longest}
use Rattle.promise.proofs.LoneExample.{lone_good, lone_judged, longest_reads}

due_first : (t : ℕ) → t ≤ 65535 → all_demands (table_of longest) t ≡ only (leb 65535 t) 65535
unfolding longest record_of records_before records_of task_of sum
due_first t within =
    demands_lone (lone_good longest_reads) longest_reads.lone t
    ∙ counted_first (demand_moves (lone_proper (lone_good longest_reads) longest_reads.lone)) refl t within

work_first : (w : ℕ) → w ≤ 65535 → all_work (table_of longest) w ≡ only (leb 1 w) 65535
unfolding longest record_of records_before records_of task_of sum
work_first w within =
    work_lone (lone_good longest_reads) longest_reads.lone w
    ∙ counted_first (work_moves (lone_proper (lone_good longest_reads) longest_reads.lone)) refl w within

none_due : (t : ℕ) → t < 65535 → all_demands (table_of longest) t ≡ 0
none_due t less = due_first t (omega arith) ∙ (gate 65535 t 65535).shut less

all_asked : (w : ℕ) → 1 ≤ w → w ≤ 65535 → all_work (table_of longest) w ≡ 65535
all_asked w some within = work_first w within ∙ (gate 1 w 65535).passes some

calm : (t : ℕ) → all_demands (table_of longest) t ≤ t
calm =
    calm_always (lone_good longest_reads) 65535 (lit≤ tt) (omega (arith, all_asked 65535 (lit≤ tt) (lit≤ tt)))
    (λ u less. omega (arith, none_due u less))

positive : (u : ℕ) → 1 ≤ u → u < 65535 → pos 0 <ℤ margin (table_of longest) u
positive u some less = rw (none_due u less, sub_zero_is u) (lt_test (pos 0) (pos u) (lt-ltb 0 u some))

at_last : margin (table_of longest) 65535 ≡ pos 0
at_last = rw (due_first 65535 (lit≤ tt)) refl

longest_closes : Meaning.Closing horizon (table_of longest) 65535
unfolding horizon
longest_closes =
    record {
      from = lit≤ tt;
      within = lit≤ tt;
      closes = omega (arith, all_asked 65535 (lit≤ tt) (lit≤ tt));
      least = λ w from less. omega (arith, all_asked w from (omega arith));
    }

longest_means : Meaning.Fits horizon (table_of longest) 65535 (pos 0) 65535
unfolding horizon
longest_means =
    let table = table_of longest in
    record {
      calm = λ t from within. not_below table t (overloads_no table t (calm t));
      window_is = longest_closes;
      t_from = lit≤ tt;
      t_within = lit≤ tt;
      margin_is = sym at_last;
      lowest = λ u from within. rw at_last (not_below table u (overloads_no table u (calm u)));
      first = λ u from less. rw at_last (positive u from less);
    }

pub longest_judged : verdict_asked longest ≡ answered (fits 65535 (pos 0) 65535)
longest_judged = lone_judged longest_reads (fits 65535 (pos 0) 65535) longest_means
