-- `table::reader::read_table` meets its contract. The loop's invariant, `ReadsFew`: before record i, reading on from
-- there with what is known of the records passed gives the whole reading, and the task has at most i frames so far.
-- Assumes nothing.
use Rattle.table.proofs.Turns.{ReadsFew}
use Rattle.table.proofs.reader.read_table.Given as goal

abbrev pub invariant-loop-i : goal.invariant-loop-i
invariant-loop-i l = ReadsFew l.s l.i l.known
