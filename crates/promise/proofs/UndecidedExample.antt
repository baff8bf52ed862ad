-- *Undecided* can be met: (2,65535,1) and (21846,65535,1) are judged so, proved with no walk through 65,536 windows.
-- Such a task asks for E at every tick, so no window closes; but nothing is due before 65,535, and so little by 65,536
-- that no interval up to there is overloaded.
-- Assumes nothing.
use mathlib.Core.Path.{◌≡◌}
use mathlib.Core.List.{List}
use Prim.Native.Nat.{ℕ, suc, ◌-◌, ◌*◌, ◌≤◌}
use native.Mathlib.Omega.{arith}
use lib.Dec.{lit≤}
use Rattle.model.specs.Verdict.{horizon, undecided}
use Rattle.model.specs.VerdictMeaning.{Undecided}
use Rattle.model.specs.Answer.{answered}
use Rattle.model.proofs.EachTick.{undecided_each}
use Rattle.table.specs.TableOf.{table_of}
use Rattle.desk.specs.Questions.{verdict_asked}
use Rattle.promise.specs.Tables.{each_2, each_21846}
use Rattle.promise.proofs.JudgedLaws.{judged_rightly}
use Rattle.promise.proofs.LoneExample.{Reads, lone_bytes, lone_well, lone_good, each_2_reads, each_21846_reads}

-- before 65,535 nothing is due, e is by then, and twice e by 65,536
abbrev FewDue : ℕ → Type 0
FewDue e = (t : ℕ) → t ≤ horizon → (suc t - 65535) * e ≤ t

module _ {s : List ℕ} {e : ℕ} (reads : Reads s e 65535 1) (two : 2 ≤ e) (few : FewDue e) where
  each_undecided : Undecided horizon (table_of s)
  each_undecided = undecided_each (lone_good reads) reads.lone horizon two few

  each_judged : verdict_asked s ≡ answered undecided
  each_judged = (judged_rightly s (lone_bytes reads) (lone_well reads)).undecided_when each_undecided

-- ---- "(2,65535,1) is undecided"

each_2_few : FewDue 2
unfolding horizon
each_2_few t within = omega arith

pub each_2_judged : verdict_asked each_2 ≡ answered undecided
each_2_judged = each_judged each_2_reads (lit≤ tt) each_2_few

-- ---- "(21846,65535,1) is undecided": three requests would be too much, but the third is due by 65,537

each_21846_few : FewDue 21846
unfolding horizon
each_21846_few t within = omega arith

pub each_21846_judged : verdict_asked each_21846 ≡ answered undecided
each_21846_judged = each_judged each_21846_reads (lit≤ tt) each_21846_few
