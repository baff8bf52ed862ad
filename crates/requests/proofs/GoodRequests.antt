-- A good record of a list is one that keeps both rules, by name; and 0 is the number of none.
-- Assumes nothing.
use Prim.Native.Nat.{ℕ}
use mathlib.Core.Path.{refl}
use mathlib.Core.Bool.{false≢true}
use mathlib.Core.List.{List}
use lib.Dec.{ltb}
use Rattle.laws.specs.Ladder.{Keeps}
use Rattle.laws.proofs.LadderLaws.{breaks_number}
use Rattle.model.specs.Task.{Table}
use Rattle.requests.specs.Accepted.{list_rules, GoodRequest}
use Rattle.requests.specs.ListRefusals.{RequestBreaks}

pub good_request_keeps : {last : ℕ} {table : Table} {s : List ℕ} {j : ℕ} → GoodRequest last table s j
    → Keeps (list_rules last table) (s, j)
good_request_keeps good = (good.in_place, (good.in_turn, tt))

module _ (last : ℕ) (table : Table) (s : List ℕ) (j : ℕ) where
  pub keeps_good_request : Keeps (list_rules last table) (s, j) → GoodRequest last table s j
  keeps_good_request (in_place, (in_turn, all)) = record { in_place = in_place; in_turn = in_turn }

  pub request_breaks_some : RequestBreaks last table s j 0 → ⊥
  request_breaks_some breaks = false≢true (breaks_number (s, j) (ltb 0) (list_rules last table) refl 0 0 breaks)
