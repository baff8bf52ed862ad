-- The overload list: document 01, "What the desk computes".
-- Assumes nothing.
use Rattle.std.specs.Prelude.{Bool, true, false, ◌≡◌, ℕ, suc, ◌+◌, ◌≤◌, leb}
use Rattle.laws.specs.Search.{up_to_last}
use Rattle.model.specs.Task.{Task, Table}
use Rattle.model.specs.Demand.{frame, offset}
use Rattle.model.specs.Verdict.{start}
use Rattle.model.specs.Request.{Requests}
use Rattle.model.specs.Weave.{Runs, weave}

-- "a request whose deadline is at most t": request n from frame s on, coming as early as it may
abbrev pub due_by : Task → ℕ → ℕ → ℕ → Bool
due_by task s t n = leb (offset task s n + task.D (frame task s n)) t

-- "the earliest arrivals, up to and including the last request whose deadline is at most t; none if there is no such
-- request .. A request in between with a later deadline is written too": how many.
-- Requests 0 to t are all that can be due by t: each P is at least 1, so request n comes at n or later.
unfoldable pub requests_by : Task → ℕ → ℕ → ℕ
requests_by task s t = up_to_last (due_by task s t) (suc t)

-- what the number says: the last of the requests is due by t, and none after it is
pub record UpToLastDue (task : Task) (s t many : ℕ) : Type 0 where
  pub last : (n : ℕ) → many ≡ suc n → due_by task s t n ≡ true
  pub past : (n : ℕ) → many ≤ n → due_by task s t n ≡ false

-- "For each task, from its start frame"; every task's first request comes at 0, as the demand counts its frames: "Start
-- at frame s at time 0"
abbrev pub overload_runs : Table → ℕ → Runs
overload_runs table t =
    let first : ℕ → ℕ = λ k. start (table.task k) t in
    record { start = first; many = λ k. requests_by (table.task k) (first k) t; from = λ k. 0 }

-- "Sorted by arrival, then task number."
unfoldable pub overload_list : Table → ℕ → Requests
overload_list table t = weave table (overload_runs table t)
