-- `write_list` meets its contract: it has no loop, and a law of PlaceLaws is each of its two ways out.
-- Assumes nothing.
use mathlib.Core.List.{◌++◌}
use mathlib.Core.Path.{◌≡◌, sym, ap, ap₂, ◌∙◌}
use Prim.Native.Nat.{ℕ, ◌-◌, ◌*◌}
use lib.ListN.{length, drop}
use borrow.Rule.Slice.PartMut.{mid_of}
use Rattle.std.proofs.Common.{rules}
use Rattle.table.specs.Ready.{table_in}
use Rattle.table.proofs.ReadyLaws.{ready_of, ready_few, table_proper}
use Rattle.place.proofs.PlaceLaws.{tail_room, wrote_refused, wrote_whole}
use Rattle.model.specs.Weave.{weave}
use Rattle.requests.specs.Entry.{entry_size}
use Rattle.requests.proofs.BytesLaws.{bytes_length}
use Rattle.overload.specs.Counts.{first_lanes}
use Rattle.overload.specs.Lanes.{total_left, runs_of}
use Rattle.overload.specs.Listed.{list_bytes}
use Rattle.overload.specs.declared.lanes.Lanes.{Lanes}
use Rattle.overload.specs.declared.overload.Overload.{Overload}
use Rattle.overload.proofs.FirstRuns.{first_size, first_bytes, first_puts}
use Rattle.overload.proofs.overload.Overload.write_list.Goals as goal

-- what is counted is the list's length
size_is : (asked : Overload) {lanes : Lanes} {n : ℕ} → lanes ≡ first_lanes (table_in asked.table.now) asked.t
    → n ≡ total_left lanes → length (list_bytes asked) ≡ n * entry_size
size_is asked first total =
    first_size (table_in asked.table.now) (ready_few (ready_of asked.table.now)) asked.t (rw first at total)

pub returns-then-has_no_room : goal.returns-then-has_no_room
returns-then-has_no_room c =
    let long = size_is c.args.self.now c.first_lanes-lanes.ensures c.count_left-size.ensures.is in
    rw c.alone.ensures (wrote_refused c.args.buffer.now c.args.place _ _ long (search rules))

pub put_all-requires : goal.put_all-requires
put_all-requires c =
    let asked = c.args.self.now in
    let long = size_is asked c.first_lanes-lanes.ensures c.count_left-size.ensures.is in
    first_puts (table_in asked.table.now) (ready_few (ready_of asked.table.now)) asked.t
    (table_proper asked.table.now) c.first_lanes-lanes.ensures asked.asked.within
    (tail_room c.args.buffer.now c.args.place _ _ long (search rules))

pub returns : goal.returns
returns c =
    let asked = c.args.self.now in
    let long = size_is asked c.first_lanes-lanes.ensures c.count_left-size.ensures.is in
    let bytes =
    first_bytes (table_in asked.table.now) (ready_few (ready_of asked.table.now)) asked.t
    (table_proper asked.table.now) c.first_lanes-lanes.ensures in
    let woven = weave (table_in asked.table.now) (runs_of c.first_lanes-lanes.result) in
    let counted : woven.count * entry_size ≡ c.count_left-size.result * entry_size =
    sym (bytes_length woven woven.count) ∙ ap length bytes ∙ long in
    let tail = mid_of c.args.place (length c.args.buffer.now - c.args.place) c.args.buffer.now in
    wrote_whole c.args.buffer.now c.args.place _ _ long (search rules) c.put_all.new.out
    (c.put_all.ensures ∙ ap₂ (λ front k. front ++ drop k tail) bytes counted)
