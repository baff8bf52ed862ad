-- One task's requests by their number, each as far from the next as it must be: document 01, "A table, record by
-- record".
-- Assumes nothing.
use Rattle.std.specs.Prelude.{◌&&◌, ℕ, suc, ◌+◌, ◌≤◌, ◌<◌, leb}
use Rattle.laws.specs.Sums.{sum, only}
use Rattle.model.specs.Task.{Task}
use Rattle.model.specs.Demand.{frame}

-- "A task's next request is its next frame, and comes at least P of the earlier frame after it":
-- request n, of n below m, is frame s + n and arrives at `arrive n`
abbrev pub Run : Task → ℕ → ℕ → (ℕ → ℕ) → Type 0
Run task s m arrive = (n : ℕ) → suc n < m → arrive n + task.P (frame task s n) ≤ arrive (suc n)

-- what the run asks of the interval from a to b: E of the requests that arrive at a or later and whose reach ends by b
unfoldable pub asked : Task → (ℕ → ℕ) → ℕ → ℕ → (ℕ → ℕ) → ℕ → ℕ → ℕ
asked task reach s m arrive a b =
    sum m
    (λ n. only (leb a (arrive n) && leb (arrive n + reach (frame task s n)) b) (task.E (frame task s n)))
