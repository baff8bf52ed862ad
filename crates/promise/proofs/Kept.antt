-- The promise is kept: the three demands of any bytes, the one answer of every function, the named numbers, and what a
-- caller of the code may rely on. And the worked examples.
-- Assumes nothing.
use mathlib.Core.List.{List}
use Prim.Native.Nat.{ℕ}
use Rattle.model.proofs.EdgeExamples.{edges}
use Rattle.model.proofs.JobExamples.{too_many_jobs, released_first, one_done, ends_early, placed_first}
use Rattle.model.proofs.PeakStart.{from_the_peak, from_the_heaviest, heaviest_start}
use Rattle.table.specs.Bytes.{Bytes}
use Rattle.promise.specs.Demands.{Demands, Promised}
use Rattle.promise.specs.Examples.{Examples}
use Rattle.promise.proofs.EveryLaws.{every_question}
use Rattle.promise.proofs.BenchLaws.{ticks_rightly}
use Rattle.promise.proofs.NumberLaws.{numbers, read_well}
use Rattle.promise.proofs.WritingExact.{lent_leaves}
use Rattle.promise.proofs.PassedLaws.{passed}
use Rattle.promise.proofs.OverloadedLaws.{overloaded_shown}
use Rattle.promise.proofs.JudgedLaws.{judged_rightly}
use Rattle.promise.proofs.EachQuestion.{one_answer}
use Rattle.promise.proofs.SettledLaws.{settled_each}
use Rattle.promise.proofs.StepLaws.{stepped, idle_zero}
use Rattle.promise.proofs.NamedLaws.{named_right, cited}
use Rattle.promise.proofs.CallerLaws.{callers}
use Rattle.promise.proofs.CaseLaws.{cases_given}
use Rattle.promise.proofs.PassedExample.{a_legal, a_unbounded, a_finishes, a_accepted, a_replayed}
use Rattle.promise.proofs.LongestExample.{longest_judged}
use Rattle.promise.proofs.LegalNeeded.{not_legal, not_finished}
use Rattle.promise.proofs.OverloadedExample.{b_is_written, own_leaves, other_leaves, b_misses}
use Rattle.promise.proofs.LimitExample.{limit_judged}
use Rattle.promise.proofs.UndecidedExample.{each_2_judged, each_21846_judged}
use Rattle.promise.proofs.RefusalExamples.{a_unwritten, b_none, late_one}
use Rattle.promise.proofs.FlatExamples.{flat_longest, flat_last, flat_two, flat_empty}

demands : (s : List ℕ) → Bytes s → Demands s
demands s bytes =
    record {
      every = every_question s bytes;
      tables = λ shape. read_well s;
      lent = λ buffer place. lent_leaves s buffer place bytes;
      numbers = λ well. numbers s well bytes;
      ticks = ticks_rightly;
      passed = passed s bytes;
      overloaded = overloaded_shown s bytes;
      judged = judged_rightly s bytes;
    }

pub kept : Promised
kept =
    record {
      demands = demands;
      settled = one_answer;
      settled_bench = settled_each;
      stepped = stepped;
      idle = idle_zero;
      named = named_right;
      callers = callers;
    }

pub examples : Examples
examples =
    record {
      a_legal = a_legal;
      a_unbounded = a_unbounded;
      a_finishes = a_finishes;
      a_accepted = a_accepted;
      a_met = a_replayed;
      longest_fits = longest_judged;
      one_fits = cited.one_fits.0;
      not_legal = not_legal;
      not_finished = not_finished;
      b_is_written = b_is_written;
      own_leaves = own_leaves;
      other_leaves = other_leaves;
      b_misses = b_misses;
      last_t = limit_judged;
      two_undecided = each_2_judged;
      third_undecided = each_21846_judged;
      cases = cases_given;
      a_unwritten = a_unwritten;
      b_none = b_none;
      flat_longest = flat_longest;
      flat_last = flat_last;
      flat_two = flat_two;
      flat_empty = flat_empty;
      late_one = late_one;
      edges = edges;
      from_the_peak = from_the_peak;
      from_the_heaviest = from_the_heaviest;
      heaviest_start = heaviest_start;
      too_many = too_many_jobs;
      released_first = released_first;
      one_done = one_done;
      ends_early = ends_early;
      placed_first = placed_first;
    }
