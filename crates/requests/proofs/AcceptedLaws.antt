-- Accepted bytes are a legal, sorted list of at most 128 requests with no late arrival, and nothing else is asked of
-- them but zero pads: document 01, "The replay bench". And what a caller knows of a list that was called legal.
-- Assumes nothing.
use Prim.Native.Nat.{ℕ, ◌≤◌, ◌<◌}
use mathlib.Core.Path.{◌≡◌}
use mathlib.Core.List.{List}
use Rattle.std.specs.Prelude.{Ok}
use Rattle.model.specs.Task.{Table}
use Rattle.model.specs.Request.{Legal, Sorted, last_arrival}
use Rattle.requests.specs.Entry.{entries, most_requests, entry_of, list_of}
use Rattle.requests.specs.ListReader.{check_of}
use Rattle.requests.specs.Accepted.{GoodRequest, Accepted, InRule, Listed}
use Rattle.requests.proofs.ListLengthLaws.{list_length_few}
use Rattle.requests.proofs.ListReaderExact.{check_good, check_count}

-- ---- the rules of the whole list

module _ {table : Table} {s : List ℕ} (accepted : Accepted table s) where
  pub accepted_legal : Legal table (list_of s)
  accepted_legal =
      record {
        known = λ i within. (accepted.good i within).in_place.known;
        follows = λ i j within next. (accepted.good j within).in_turn i next;
      }

  pub accepted_sorted : Sorted (list_of s)
  accepted_sorted i j before within = (accepted.good j within).in_place.ordered i before

  pub accepted_few : entries s ≤ most_requests
  accepted_few = list_length_few accepted.long

  pub accepted_pads : (i : ℕ) → i < entries s → (entry_of s i).pad ≡ 0
  accepted_pads i within = (accepted.good i within).in_place.pad

  pub accepted_near : (i : ℕ) → i < entries s → ((list_of s).request i).arrival ≤ last_arrival
  accepted_near i within = (accepted.good i within).in_place.near

pub accepted_in_rule : {table : Table} {s : List ℕ} → Accepted table s → InRule table s
accepted_in_rule accepted =
    record {
      long = accepted.long;
      pads = accepted_pads accepted;
      legal = accepted_legal accepted;
      sorted = accepted_sorted accepted;
      near = accepted_near accepted;
    }

-- and back: these are all that is asked, record by record
module _ {last : ℕ} {table : Table} {s : List ℕ} (pads : (i : ℕ) → i < entries s → (entry_of s i).pad ≡ 0)
    (legal : Legal table (list_of s)) (sorted : Sorted (list_of s))
    (near : (i : ℕ) → i < entries s → ((list_of s).request i).arrival ≤ last) where
  pub rules_good : (j : ℕ) → j < entries s → GoodRequest last table s j
  rules_good j within =
      record {
        in_place =
            record {
              pad = pads j within;
              known = legal.known j within;
              near = near j within;
              ordered = λ i before. sorted i j before within;
            };
        in_turn = λ i next. legal.follows i j within next;
      }

pub in_rule_accepted : {table : Table} {s : List ℕ} → InRule table s → Accepted table s
in_rule_accepted rules =
    record { long = rules.long; good = rules_good rules.pads rules.legal rules.sorted rules.near }

-- ---- what a caller that has checked a list knows

pub listed : (table : Table) → table.tasks ≤ 16 → (s : List ℕ) (n : ℕ) → check_of table s ≡ Ok n →
    Listed table s n
listed table few s n is = record { accepted = check_good table few s n is; count_is = check_count table few s n is }
