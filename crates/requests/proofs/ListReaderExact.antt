-- The reader is exact, both ways: it calls a list legal exactly where the bytes are accepted, and gives a refusal
-- exactly where document 01 names that refusal with that index. Every table that is read has at most 16 tasks.
-- Assumes nothing.
use Prim.Native.Nat.{ℕ, ◌≤◌}
use mathlib.Core.Path.{◌≡◌, refl, sym}
use mathlib.Core.List.{List}
use Rattle.std.specs.Prelude.{Result, Ok, Err}
use Rattle.laws.specs.Reader.{Read, whole, stopped, read_all}
use Rattle.laws.proofs.ReaderExact.{Said, said, faultless_read, faulty_read}
use Rattle.model.specs.Task.{Table}
use Rattle.table.specs.Faults.{refusal_at}
use Rattle.table.specs.declared.fault.Refusal.{Refusal}
use Rattle.requests.specs.declared.list_rules.Carry.{Carry}
use Rattle.requests.specs.ListReader.{list_reader, checked_in, check_of}
use Rattle.requests.specs.Entry.{entries}
use Rattle.requests.specs.Accepted.{Accepted}
use Rattle.requests.specs.ListRefusals.{ListRefused}
use Rattle.requests.proofs.CheckLaws.{check_stopped, check_whole, check_rules}

-- what an answer says of the bytes
abbrev Told : Table → List ℕ → Result ℕ Refusal → Type 0
Told table s (Ok n) = Accepted table s
Told table s (Err r) = ListRefused table s r.number r.index

module _ (table : Table) (few : table.tasks ≤ 16) (s : List ℕ) where
  told : Told table s (check_of table s)
  unfolding check_of
  told = from (read_all (list_reader table s)) (said (check_rules table few s))
    where
      from : (x : Read Carry) → Said (check_rules table few s) x → Told table s (checked_in (entries s) x)
      from (whole b) faultless = record { long = faultless.long; good = faultless.good }
      from (stopped number index) faulty = faulty

  -- ---- a list is called legal exactly where the bytes are accepted

  pub check_good : (n : ℕ) → check_of table s ≡ Ok n → Accepted table s
  check_good n is = rw is at told

  pub good_check : Accepted table s → check_of table s ≡ Ok (entries s)
  good_check accepted =
      let end = faultless_read (check_rules table few s) (record { long = accepted.long; good = accepted.good }) in
      sym (check_whole table s end.is refl)

  pub check_count : (n : ℕ) → check_of table s ≡ Ok n → n ≡ entries s
  check_count n is = cc (good_check (check_good n is))

  -- ---- a refusal is given exactly where document 01 gives it

  pub check_refused : (r : Refusal) → check_of table s ≡ Err r → ListRefused table s r.number r.index
  check_refused r is = rw is at told

  pub refused_check : (number index : ℕ) → ListRefused table s number index →
      check_of table s ≡ Err (refusal_at number index)
  refused_check number index bad = sym (check_stopped table s (faulty_read (check_rules table few s) number index bad))
