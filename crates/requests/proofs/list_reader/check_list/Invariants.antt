-- `requests::list_reader::check_list` meets its contract. The loop's invariant, `ReadsOn`: before record i, reading on
-- from there with what is carried from the records passed gives the whole answer.
-- Assumes nothing.
use Rattle.laws.proofs.ReaderLaws.{ReadsOn}
use Rattle.table.specs.Ready.{table_in}
use Rattle.requests.specs.ListReader.{list_reader}
use Rattle.requests.proofs.list_reader.check_list.Given as goal

abbrev pub invariant-loop-i : goal.invariant-loop-i
invariant-loop-i l = ReadsOn (list_reader (table_in l.table) l.list) l.i l.known
