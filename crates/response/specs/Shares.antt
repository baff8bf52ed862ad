-- What the shares of the higher tasks are, and how large.
-- Assumes nothing.
use Rattle.std.specs.Prelude.{◌≡◌, ℕ, ◌≤◌}
use Rattle.model.specs.Task.{Task, Table, TaskSet}
use Rattle.model.specs.Response.{share_of, share_over}
use Rattle.sums.specs.Sized.{bound, bound_all}

-- one higher task's share of w ticks
pub record Share (task : Task) (w r : ℕ) : Type 0 where
  pub is : r ≡ share_of task w
  pub at_most : r ≤ bound w

-- the share of the higher tasks together
pub record Shares (table : Table) (higher : TaskSet) (w r : ℕ) : Type 0 where
  pub is : r ≡ share_over table higher w
  pub at_most : r ≤ bound_all w
