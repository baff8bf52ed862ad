-- The higher tasks' shares: one as the walk from the peak frame gives it, and all of them added in order.
-- Assumes nothing.
use mathlib.Core.Path.{sym, ◌∙◌, ap}
use Prim.Native.Nat.{ℕ, ◌≤◌}
use native.Mathlib.Omega.{arith}
use Rattle.laws.proofs.Adding.{Adding, adding_room, adding_end}
use Rattle.model.specs.Task.{Task, Table, Proper}
use Rattle.model.specs.Demand.{counted}
use Rattle.model.specs.Response.{share_of, above_in_table}
use Rattle.model.proofs.DemandLaws.{work_moves}
use Rattle.model.proofs.ShareLaws.{peak_lowest}
use Rattle.model.proofs.HigherLaws.{higher_sum}
use Rattle.sums.specs.declared.peak.Peak.{Peak}
use Rattle.sums.specs.declared.asked.Sum.TheVariants.{Work}
use Rattle.sums.specs.Sized.{bound, Summed, Peaks}
use Rattle.response.specs.Shares.{Share, Shares}

-- ---- one task

-- the start that brings the most work into one tick is the peak frame, and the sum from there is the share
pub share_counted : {task : Task} → Proper task → {peak : Peak} → Peaks task Work 1 peak → {w r : ℕ}
    → Summed task Work w peak.start r → Share task w r
unfolding share_of
share_counted {task} proper peak {w} sum =
    record {
      is = sum.is ∙ ap (counted task (λ i. 1) w) (peak.start_is ∙ peak_lowest (work_moves proper));
      at_most = sum.at_most;
    }

-- ---- the higher tasks together

abbrev pub shares : Table → ℕ → ℕ → ℕ
shares table w j = share_of (table.task j) w

-- those before task k are added in order, and there are sixteen tasks at the most
pub shares_added : {table : Table} {k w so_far j : ℕ} → Adding (shares table w) (bound w) k so_far j
    → k ≤ table.tasks → table.tasks ≤ 16 → k ≤ j → Shares table (above_in_table k) w so_far
shares_added {table} {k} {w} adding known few done =
    record {
      is = adding_end adding done ∙ sym (higher_sum table k w known);
      at_most = adding_room adding 16 (omega (arith, adding.within));
    }
