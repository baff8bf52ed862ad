-- The answer at each end of the reading; and the rules 10 and 11, with what is carried from the records passed, are
-- rules by which a reader is exact.
-- Assumes nothing.
use Prim.Native.Nat.{ℕ, ◌≤◌}
use mathlib.Core.Path.{◌≡◌, refl, sym}
use mathlib.Core.Logic.{inl, inr}
use mathlib.Core.List.{List}
use lib.ListN.{length}
use native.Mathlib.Omega.{arith}
use Rattle.std.specs.Prelude.{Ok, Err}
use Rattle.laws.specs.Reader.{whole, stopped, read_all}
use Rattle.laws.proofs.LadderLaws.{climb_kept, climb_broken, keeps_or_named}
use Rattle.laws.proofs.ReaderExact.{Rules}
use Rattle.model.specs.Task.{Table}
use Rattle.model.specs.Request.{last_arrival}
use Rattle.table.specs.Faults.{refusal_at}
use Rattle.requests.specs.declared.list_rules.Carry.{Carry}
use Rattle.requests.specs.Entry.{entries, entry_of}
use Rattle.requests.specs.Accepted.{ListLengthRight, list_rules, GoodRequest}
use Rattle.requests.specs.ListReader.{list_reader, check_of}
use Rattle.requests.specs.ListRefusals.{RequestBreaks}
use Rattle.requests.proofs.ListLengthLaws.{catches_list_length}
use Rattle.requests.proofs.CarriedLaws.{Carried, carried_start}
use Rattle.requests.proofs.CarriedNext.{carried_next}
use Rattle.requests.proofs.GoodRequests.{good_request_keeps, keeps_good_request, request_breaks_some}
use Rattle.requests.proofs.ListRuleLaws.{list_rules_caught}

-- ---- the answer

module _ (table : Table) (s : List ℕ) where
  pub check_stopped : {number index : ℕ} → read_all (list_reader table s) ≡ stopped number index →
      Err (refusal_at number index) ≡ check_of table s
  unfolding check_of
  check_stopped is = sym (rw is)

  pub check_whole : {b : Carry} → read_all (list_reader table s) ≡ whole b → {n : ℕ} → n ≡ entries s →
      Ok n ≡ check_of table s
  unfolding check_of
  check_whole is all = sym (rw (is, all))

-- ---- the rules

abbrev pub check_rules : (table : Table) → table.tasks ≤ 16 → (s : List ℕ) → Rules (list_reader table s)
check_rules table few s =
    let last = last_arrival in
    record {
      Long = ListLengthRight (length s);
      Good = GoodRequest last table s;
      Breaks = RequestBreaks last table s;
      Known = Carried table s;
      long = catches_list_length (length s);
      start = carried_start s few;
      next = λ i b carried good. carried_next carried (omega (arith, few, good.in_place.known.task));
      passes = λ i b carried good.
          climb_kept (λ number index. number) (b, entry_of s i) (s, i) 0 (list_rules last table)
          (list_rules_caught carried last) (good_request_keeps good);
      stops = λ i b number carried breaks.
          climb_broken (λ number index. number) (b, entry_of s i) (s, i) 0 (list_rules last table) number 0
          (list_rules_caught carried last) breaks;
      numbered = request_breaks_some last table s;
      either = λ i b carried.
          elim (keeps_or_named (b, entry_of s i) (s, i) (list_rules last table) refl (list_rules_caught carried last)) [
            | inl keeps ↦ inl (keeps_good_request last table s i keeps)
            | inr breaks ↦ inr breaks
          ];
    }
