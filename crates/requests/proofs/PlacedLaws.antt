-- A record that rule 10 passes has its frame in the table, and so its task is one of sixteen.
-- Assumes nothing.
use Prim.Native.Nat.{ℕ, ◌<◌}
use mathlib.Core.Path.{◌≡◌}
use mathlib.Core.Bool.{false}
use native.Mathlib.Omega.{arith}
use Rattle.model.specs.Request.{HasFrame}
use Rattle.table.specs.declared.task_table.TaskTable.{TaskTable}
use Rattle.table.specs.Ready.{table_in}
use Rattle.table.proofs.ReadyLaws.{ready_of, ready_few}
use Rattle.requests.specs.declared.entry.Entry.{Entry}
use Rattle.requests.specs.declared.list_rules.Carry.{Carry}
use Rattle.requests.specs.ListRules.{misplaced}
use Rattle.requests.proofs.TestLaws.{catches_place}

module _ (table : TaskTable) where
  pub known_low : {k i : ℕ} → HasFrame (table_in table) k i → k < 16
  known_low has = omega (arith, has.task, ready_few (ready_of table))

  pub passed_low : (last : ℕ) (b : Carry) (x : Entry) → misplaced last (table_in table) b x ≡ false → x.task < 16
  passed_low last b x fine = known_low ((catches_place last (table_in table) b x).passed fine).known
