-- The answer for any bytes taken as a request list of a table: document 01, "When the desk says no", 10 and 11.
-- "for a list, length, then records in order, in each record 10 before 11."
-- Assumes nothing.
use Rattle.std.specs.Prelude.{ℕ, ◌*◌, ◌%◌, List, Bool, not, ◌||◌, length, ltb, eqb, Result, Ok, Err}
use Rattle.laws.specs.Ladder.{climb}
use Rattle.laws.specs.Reader.{Reader, Read, whole, stopped, read_all}
use Rattle.model.specs.Task.{Table}
use Rattle.model.specs.Request.{last_arrival}
use Rattle.table.specs.Faults.{refusal_at}
use Rattle.table.specs.declared.fault.Refusal.{Refusal}
use Rattle.requests.specs.declared.entry.Entry.{Entry}
use Rattle.requests.specs.declared.list_rules.Carry.{Carry}
use Rattle.requests.specs.Entry.{entry_size, entries, most_requests, entry_of}
use Rattle.requests.specs.ListRules.{nothing_carried, list_after}
use Rattle.requests.specs.Accepted.{list_rules}

-- 10: "list length not a multiple of 8 or above 1,024 (index 0)"
abbrev pub bad_list_length : ℕ → Bool
bad_list_length n = ltb (most_requests * entry_size) n || not (eqb (n % entry_size) 0)

-- "in each record 10 before 11": the number of the first that is broken, or 0
abbrev pub list_fault : ℕ → Table → Carry → Entry → ℕ
list_fault last table b x = climb (list_rules last table) (λ number index. number) (b, x) 0

-- how a list is read: rule 10 by its length, then the rules 10 and 11 record by record
abbrev pub list_reader : Table → List ℕ → Reader Carry Entry
list_reader table s =
    record {
      bad_length = bad_list_length (length s);
      length_number = 10;
      count = entries s;
      at = entry_of s;
      start = nothing_carried;
      fault = list_fault last_arrival table;
      after = list_after table;
    }

-- the answer, for n records
abbrev pub checked_in : ℕ → Read Carry → Result ℕ Refusal
checked_in n (whole b) = Ok n
checked_in n (stopped number index) = Err (refusal_at number index)

unfoldable pub check_of : Table → List ℕ → Result ℕ Refusal
check_of table s = checked_in (entries s) (read_all (list_reader table s))
