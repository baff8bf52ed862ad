-- What the bytes of an overload list are, read back: document 01, "Overload list". One line for each claim.
-- Assumes nothing.
use Rattle.std.specs.Prelude.{◌≡◌, List, ℕ, ◌<◌}
use Rattle.model.specs.Task.{Table}
use Rattle.model.specs.Demand.{all_demands}
use Rattle.model.specs.Request.{Legal, Same}
use Rattle.model.specs.Jobs.{jobs_of}
use Rattle.model.specs.Weave.{Woven}
use Rattle.model.specs.Overload.{overload_runs, overload_list}
use Rattle.model.specs.Schedule.{due_within}
use Rattle.requests.specs.Entry.{entries, list_of}
use Rattle.requests.specs.Accepted.{Lawful}

pub record Shows (table : Table) (t : ℕ) (list : List ℕ) : Type 0 where
  -- read back, it is the definition's list
  pub same : Same (list_of list) (overload_list table t)
  -- "For each task, from its start frame, the earliest arrivals, up to and including the last request whose deadline is
  -- at most t", each in its turn; "sorted by arrival, then task number"
  pub woven : Woven table (overload_runs table t) (list_of list)
  -- a legal request list, of any length
  pub legal : Legal table (list_of list)
  -- the bench's rules 10 and 11, but for its limit of 128 records
  pub lawful : Lawful table list
  -- its requests that are due by t ask for all of the demand at t
  pub asks : due_within (jobs_of table (list_of list)) 0 t ≡ all_demands table t
  pub some : 0 < entries list
