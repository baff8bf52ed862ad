-- What the lanes say before a request is taken: the runs of the overload list, so that what is put from them is its
-- bytes, and as many requests left as it has.
-- Assumes nothing.
use mathlib.Core.Path.{◌≡◌, sym, ◌∙◌, ap}
use Prim.Native.Nat.{ℕ, zero, suc, ◌*◌, ◌≤◌, ◌<◌}
use native.Mathlib.Numerals.{add-one}
use native.Mathlib.Omega.{arith}
use lib.ListN.{length}
use borrow.Author.Tests.{lt-ltb, le-ltb}
use Rattle.std.proofs.Common.{map, sum_by}
use Rattle.std.specs.List.{range_with_len}
use Rattle.std.proofs.lemmas.List.FromFn.{get_or-map-range_with_len, sum_by-map-range_with_len_more}
use Rattle.laws.specs.Sums.{sum}
use Rattle.laws.proofs.SumLaws.{sum_zero, sum_suc, sum_cong, sum_past}
use Rattle.model.specs.Task.{Table, ProperTable}
use Rattle.model.specs.Request.{Request, Same}
use Rattle.model.specs.Weave.{weave}
use Rattle.model.specs.Overload.{overload_runs, overload_list}
use Rattle.model.proofs.OverloadLaws.{overload_inside, overload_before}
use Rattle.model.proofs.WeaveLaws.{weave_count}
use Rattle.model.proofs.WeaveSame.{Alike, earliest_same, weave_same}
use Rattle.requests.specs.Entry.{entry_size, bytes_of}
use Rattle.requests.proofs.BytesLaws.{bytes_length, bytes_same}
use Rattle.sums.specs.Sized.{ceiling}
use Rattle.overload.specs.Counts.{many_in, first_lane, first_lanes}
use Rattle.overload.specs.Lanes.{lane, total_left, runs_of, Puts}
use Rattle.overload.specs.declared.lanes.Lanes.{Lanes}

-- a sum over a list by its places
sum_listed : {X : Type 0} (g : X → ℕ) (f : ℕ → X) (n : ℕ) → sum_by g (map f (range_with_len 0 n)) ≡ sum n (λ k. g (f k))
sum_listed g f zero = sym (sum_zero (λ k. g (f k)))
sum_listed g f (suc n) =
    omega (
      arith,
      ap (λ m. sum_by g (map f (range_with_len 0 m))) (add-one n),
      sum_by-map-range_with_len_more g f 0 n n (omega arith),
      sum_listed g f n,
      sum_suc n (λ k. g (f k)),
    )

module _ (table : Table) (few : table.tasks ≤ 16) (t : ℕ) where
  many_is : (k : ℕ) → k < table.tasks → many_in table t k ≡ (overload_runs table t).many k
  many_is k inside = rw (lt-ltb k table.tasks inside)

  many_past : (k : ℕ) → table.tasks ≤ k → many_in table t k ≡ 0
  many_past k past = rw (le-ltb k table.tasks past)

  -- ---- how many are left

  pub first_total : total_left (first_lanes table t) ≡ (overload_list table t).count
  unfolding first_lanes overload_list
  first_total =
      let runs = overload_runs table t in
      sum_listed (λ x. x.left) (first_lane table t) 16
      ∙ sum_past table.tasks 16 (many_in table t) few many_past
      ∙ sum_cong table.tasks (many_in table t) runs.many many_is
      ∙ sym (weave_count table runs)

  pub first_size : {n : ℕ} → n ≡ total_left (first_lanes table t)
      → length (bytes_of (overload_list table t)) ≡ n * entry_size
  first_size is =
      let list = overload_list table t in omega (arith, bytes_length list list.count, first_total)

  -- ---- what they say

  lane_is : (k : ℕ) → k < table.tasks → lane (first_lanes table t) k ≡ first_lane table t k
  unfolding first_lanes
  lane_is k inside =
      get_or-map-range_with_len (first_lane table t) 0 16 k k _ (omega (arith, few)) (omega arith)

  module _ (good : ProperTable table) {lanes : Lanes} (first : lanes ≡ first_lanes table t) where
    alike : Alike table (runs_of lanes) (overload_runs table t)
    alike =
        rw first
        (record {
          starts = λ k inside. ap (λ x. x.frame) (lane_is k inside) ∙ rw (lt-ltb k table.tasks inside);
          many = λ k inside. ap (λ x. x.left) (lane_is k inside) ∙ many_is k inside;
          from = λ k inside. ap (λ x. x.arrival) (lane_is k inside);
        })

    list_is : Same (weave table (runs_of lanes)) (overload_list table t)
    unfolding overload_list
    list_is = weave_same alike good

    pub first_bytes : bytes_of (weave table (runs_of lanes)) ≡ bytes_of (overload_list table t)
    first_bytes = bytes_same list_is

    pub first_puts : t ≤ ceiling → {room : ℕ} → length (bytes_of (overload_list table t)) ≤ room
        → Puts table (runs_of lanes) room
    first_puts within room_is =
        record {
          fits =
              omega (arith, list_is.count_is, bytes_length (overload_list table t) (overload_list table t).count);
          inside = λ k inside. rw (alike.starts k inside) (overload_inside good t k inside);
          near = λ k n inside made.
              omega (
                arith,
                ap (λ (r : Request). r.arrival) (earliest_same alike k n inside),
                overload_before good t k n inside (rw (alike.many k inside) at made),
              );
        }
