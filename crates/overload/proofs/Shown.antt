-- The bytes of the overload list show what they are to show, wherever the demand at t is above t and t is within the
-- horizon.
-- Assumes nothing.
use Prim.Native.Nat.{ℕ, ◌≤◌, ◌<◌}
use native.Mathlib.Omega.{arith}
use Rattle.model.specs.Task.{Table, ProperTable}
use Rattle.model.specs.Demand.{all_demands}
use Rattle.model.specs.Verdict.{horizon}
use Rattle.model.specs.Request.{Same, last_arrival}
use Rattle.model.specs.Weave.{Woven}
use Rattle.model.specs.Overload.{overload_runs, overload_list}
use Rattle.model.proofs.WeaveWoven.{weave_woven}
use Rattle.model.proofs.WovenLegal.{woven_legal}
use Rattle.model.proofs.WovenSame.{same_woven}
use Rattle.model.proofs.OverloadLaws.{overload_asks, overload_some, overload_near}
use Rattle.requests.specs.Entry.{list_of, bytes_of}
use Rattle.requests.proofs.BytesLaws.{bytes_read_back}
use Rattle.requests.proofs.LawfulLaws.{written_lawful}
use Rattle.overload.specs.Shows.{Shows}

module _ {table : Table} (good : ProperTable table) (t : ℕ) (within : t ≤ horizon) where
  list_woven : Woven table (overload_runs table t) (overload_list table t)
  unfolding overload_list
  list_woven = weave_woven table good (overload_runs table t)

  near : (i : ℕ) → i < (overload_list table t).count → ((overload_list table t).request i).arrival ≤ last_arrival
  unfolding horizon last_arrival
  near i inside = omega (arith, overload_near good t (overload_list table t) list_woven i inside)

  back : Same (list_of (bytes_of (overload_list table t))) (overload_list table t)
  unfolding last_arrival
  back = bytes_read_back (overload_list table t) (λ i inside. omega (arith, near i inside))

  pub list_shows : t < all_demands table t → Shows table t (bytes_of (overload_list table t))
  list_shows over =
      let woven = same_woven back list_woven in
      let list = list_of (bytes_of (overload_list table t)) in
      record {
        same = back;
        woven = woven;
        legal = woven_legal good woven;
        lawful =
            written_lawful (overload_list table t) (woven_legal good list_woven) list_woven.sorted near;
        asks = overload_asks good t list woven;
        some = overload_some good t list woven (omega arith);
      }
