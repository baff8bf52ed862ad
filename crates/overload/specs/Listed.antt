-- The list that is asked for, as bytes.
-- Assumes nothing.
use Rattle.std.specs.Prelude.{List, ℕ}
use Rattle.model.specs.Overload.{overload_list}
use Rattle.table.specs.Ready.{table_in}
use Rattle.requests.specs.Entry.{bytes_of}
use Rattle.overload.specs.declared.overload.Overload.{Overload}

abbrev pub list_bytes : Overload → List ℕ
list_bytes asked = bytes_of (overload_list (table_in asked.table.now) asked.t)
