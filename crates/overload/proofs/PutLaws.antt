-- The loop that writes: the first i requests of the list are in the bytes, and the lanes stand before request i.
-- Assumes nothing.
use mathlib.Core.Path.{◌≡◌, refl, sym, ◌∙◌, ap}
use mathlib.Core.List.{List, ◌++◌, append_assoc}
use Prim.Native.Nat.{ℕ, ◌+◌, ◌-◌, ◌*◌, ◌≤◌, ◌<◌}
use native.Mathlib.Numerals.{add-one}
use native.Mathlib.Omega.{arith}
use lib.ListN.{length, drop, set, length-set}
use lib.Seq.{drop-drop, take_at, drop_at}
use borrow.Rule.Slice.PartMut.{put_mid}
use Rattle.std.proofs.Common.{Some, None}
use Rattle.laws.specs.Search.{at, option_of}
use Rattle.laws.proofs.FoundLaws.{found_some, found_none}
use Rattle.model.specs.Task.{Table, ProperTable}
use Rattle.model.specs.Request.{Requests}
use Rattle.model.specs.Weave.{Runs, taken_by, weave}
use Rattle.model.proofs.CyclicLaws.{frame_lt}
use Rattle.requests.specs.Entry.{entry_size, entry_bytes, bytes_to, bytes_of}
use Rattle.requests.proofs.BytesLaws.{bytes_length}
use Rattle.overload.specs.Lanes.{lane, front, next_request, lane_moved, Movable, Stand, runs_of, Puts}
use Rattle.overload.specs.declared.lanes.Lane.{Lane}
use Rattle.overload.specs.declared.lanes.Lanes.{Lanes}
use Rattle.overload.proofs.StandLaws.{stand_start, stand_frame, stand_arrival}
use Rattle.overload.proofs.WeaveTurns.{turn_known, turn_left, turn_listed, turn_request, turn_stand, stand_end}

-- `lent` is what was lent, `out` what it is now
pub record Putting (table : Table) (runs : Runs) (tasks : ℕ) (lent out : List ℕ) (lanes : Lanes) (at : ℕ)
    : Type 0 where
  pub puts : Puts table runs (length lent)
  pub all : tasks ≡ table.tasks
  pub few : tasks ≤ 16
  pub i : ℕ  -- the requests that are written
  pub within : i ≤ (weave table runs).count
  pub at_is : at ≡ i * entry_size
  pub out_is : out ≡ bytes_to (weave table runs) i ++ drop at lent
  pub sixteen : length lanes.each ≡ 16
  pub stand : Stand table runs (taken_by table runs i) lanes

pub putting_start : {table : Table} {tasks : ℕ} {lent : List ℕ} {lanes : Lanes}
    → Puts table (runs_of lanes) (length lent) → tasks ≡ table.tasks → table.tasks ≤ 16 → length lanes.each ≡ 16
    → Putting table (runs_of lanes) tasks lent lent lanes 0
unfolding bytes_to
putting_start puts all few sixteen =
    record {
      puts = puts;
      all = all;
      few = omega arith;
      i = 0;
      within = omega arith;
      at_is = refl;
      out_is = refl;
      sixteen = sixteen;
      stand = stand_start puts;
    }

-- the bytes after `front`, which has the first `start` of them, are written over
one_more : (front more lent : List ℕ) (start n : ℕ) → length front ≡ start
    → put_mid start n (front ++ drop start lent) more ≡ (front ++ more) ++ drop (start + n) lent
one_more front more lent start n long =
    rw (take_at front (drop start lent) start long, drop_at front (drop start lent) start long, drop-drop n start lent)
    (sym (append_assoc front more (drop (start + n) lent)))

module _ {table : Table} {runs : Runs} {lent out : List ℕ} {lanes : Lanes} {start tasks : ℕ}
    (putting : Putting table runs tasks lent out lanes start) where
  abbrev list : Requests
  list = weave table runs

  pub putting_end : None ≡ option_of (front tasks lanes) → out ≡ bytes_of list ++ drop (list.count * entry_size) lent
  putting_end none =
      let nothing = found_none (front table.tasks lanes) (rw putting.all at none) in
      let end = stand_end putting.stand putting.within nothing in
      putting.out_is ∙ rw (putting.at_is, end) refl

  -- ---- request i is written

  module _ {k : ℕ} (first : Some k ≡ option_of (front tasks lanes)) where
    found : front table.tasks lanes ≡ at k
    found = found_some (front table.tasks lanes) (rw putting.all at first)

    pub putting_known : k < table.tasks
    putting_known = turn_known putting.stand putting.within found

    pub putting_low : k < 16
    putting_low = omega (arith, putting_known, putting.all, putting.few)

    listed : putting.i < list.count
    listed = turn_listed putting.stand putting.within found

    pub putting_room : start + entry_size ≤ length lent
    putting_room = omega (arith, putting.at_is, putting.puts.fits, listed)

    pub putting_movable : ProperTable table → Movable (table.task k) (lane lanes k)
    putting_movable good =
        let taken = taken_by table runs putting.i k in
        let some = turn_left putting.stand putting.within found in
        let early = putting.puts.near k taken putting_known some in
        let in_task = frame_lt (table.task k) (good.proper k putting_known).some (runs.start k) taken in
        record {
          known = rw (stand_frame putting.stand k putting_known) in_task;
          some = omega (arith, putting.stand.left_is k putting_known);
          near = rw (stand_arrival putting.stand k putting_known) (omega (arith, early));
        }

    module _ {bytes : List ℕ} (bytes_are : bytes ≡ entry_bytes (next_request (lane lanes k) k)) where
      abbrev put : List ℕ
      put = put_mid start (start + entry_size - start) out bytes

      turn_out : put ≡ bytes_to list (putting.i + 1) ++ drop (start + entry_size) lent
      unfolding bytes_to
      turn_out =
          let before = bytes_to list putting.i in
          let far : start + (start + entry_size - start) ≡ start + entry_size = omega arith in
          ap (λ o. put_mid start (start + entry_size - start) o bytes) putting.out_is
          ∙ one_more before bytes lent start _ (bytes_length list putting.i ∙ sym putting.at_is)
          ∙ rw (far, bytes_are, add-one putting.i, turn_request putting.stand putting.within found)

      pub putting_turn : {x : Lane} → x ≡ lane_moved (table.task k) (lane lanes k)
          → Putting table runs tasks lent put (record { each = set lanes.each k x }) (start + entry_size)
      putting_turn x_is =
          record {
            puts = putting.puts;
            all = putting.all;
            few = putting.few;
            i = putting.i + 1;
            within = omega (arith, listed);
            at_is = omega (arith, putting.at_is);
            out_is = turn_out;
            sixteen = length-set lanes.each k _ ∙ putting.sixteen;
            stand =
                rw (x_is, add-one)
                (turn_stand putting.stand putting.within found (omega (arith, putting_low, putting.sixteen)));
          }
