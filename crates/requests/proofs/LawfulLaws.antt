-- Lawful bytes: those of a legal, sorted list with no late arrival are lawful, and lawful bytes are accepted where they
-- are at most 128 records: document 01, "The replay bench".
-- Assumes nothing.
use Prim.Native.Nat.{ℕ, ◌*◌, ◌≤◌, ◌<◌}
use mathlib.Core.Path.{sym, subst}
use mathlib.Core.List.{List}
use lib.ListN.{length}
use native.Mathlib.Omega.{arith}
use Rattle.model.specs.Task.{Table}
use Rattle.model.specs.Request.{Request, Requests, Legal, Sorted, last_arrival}
use Rattle.model.proofs.WovenLegal.{same_legal, same_sorted}
use Rattle.requests.specs.Entry.{entry_size, entries, most_requests, widest, bytes_of}
use Rattle.requests.specs.Accepted.{Lawful, Accepted}
use Rattle.requests.proofs.AcceptedLaws.{rules_good}
use Rattle.requests.proofs.BytesLaws.{bytes_length, bytes_read_back, pads_zero}

-- ---- the bytes of a list

module _ {table : Table} (list : Requests) (legal : Legal table list) (sorted : Sorted list)
    (near : (i : ℕ) → i < list.count → (list.request i).arrival ≤ last_arrival) where
  -- an arrival that is not late has no more than its four bytes
  short : (i : ℕ) → i < list.count → (list.request i).arrival ≤ widest
  unfolding last_arrival
  short i within = omega (arith, near i within)

  pub written_lawful : Lawful table (bytes_of list)
  written_lawful =
      let same = bytes_read_back list short in
      let there : (i : ℕ) → i < entries (bytes_of list) → i < list.count = λ i within. omega (arith, same.count_is) in
      record {
        whole = omega (arith, bytes_length list list.count);
        good =
            rules_good
            (λ i within. pads_zero list short i (there i within))
            (same_legal same legal)
            (same_sorted same sorted)
            (λ i within.
            let is = same.request_is i (there i within) in
            subst (λ (x : Request). x.arrival ≤ last_arrival) (sym is) (near i (there i within)));
      }

-- ---- the limit of 128 records

pub lawful_accepted : {table : Table} {s : List ℕ} → Lawful table s → length s ≤ most_requests * entry_size
    → Accepted table s
lawful_accepted lawful few = record { long = record { few = few; whole = lawful.whole }; good = lawful.good }
