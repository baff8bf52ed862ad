-- The weave depends on nothing but the runs of the table's own tasks.
-- Assumes nothing.
use mathlib.Core.Path.{◌≡◌, ◌∙◌}
use Prim.Native.Nat.{ℕ, ◌<◌}
use Rattle.model.specs.Task.{Table, ProperTable}
use Rattle.model.specs.Request.{Requests, Same}
use Rattle.model.specs.Weave.{Runs, earliest, Woven, weave}
use Rattle.model.proofs.WeaveWoven.{weave_woven}
use Rattle.model.proofs.WovenOne.{woven_one}

-- two runs that agree on the tasks of the table
pub record Alike (table : Table) (runs other : Runs) : Type 0 where
  pub starts : (k : ℕ) → k < table.tasks → runs.start k ≡ other.start k
  pub many : (k : ℕ) → k < table.tasks → runs.many k ≡ other.many k
  pub from : (k : ℕ) → k < table.tasks → runs.from k ≡ other.from k

module _ {table : Table} {runs other : Runs} (alike : Alike table runs other) where
  pub earliest_same : (k n : ℕ) → k < table.tasks → earliest table runs k n ≡ earliest table other k n
  earliest_same k n inside = rw (alike.starts k inside, alike.from k inside)

  woven_same : {list : Requests} → Woven table runs list → Woven table other list
  woven_same woven =
      record {
        known = woven.known;
        in_turn = λ i inside. woven.in_turn i inside ∙ earliest_same _ _ (woven.known i inside);
        all = λ k inside. woven.all k inside ∙ alike.many k inside;
        sorted = woven.sorted;
      }

  pub weave_same : ProperTable table → Same (weave table runs) (weave table other)
  weave_same good = woven_one (woven_same (weave_woven table good runs)) (weave_woven table good other)
