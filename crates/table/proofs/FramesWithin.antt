-- No record has D above its P exactly where no frame of the table has: so 8, which looks at the records, is given
-- exactly where "some frame of the table has D above its P".
-- Assumes nothing.
use mathlib.Core.List.{List}
use native.Mathlib.Omega.{arith}
use Prim.Native.Nat.{ℕ, ◌+◌, ◌-◌}
use Rattle.model.specs.Request.{FramesWithin}
use Rattle.table.specs.Bytes.{records, record_of}
use Rattle.table.specs.TableOf.{records_before, table_of}
use Rattle.table.specs.WellFormed.{WellFormed}
use Rattle.table.proofs.FrameRecords.{frame_record, record_frame}
use Rattle.table.specs.Deadlines.{WithinP}

module _ (s : List ℕ) where
  pub frames_within : WithinP s (records s) → FramesWithin (table_of s)
  frames_within within k i has =
      let it = frame_record has in
      omega (arith, within (records_before (records s) s k + i) it.inside, it.d, it.p)

  pub records_within : WellFormed s → FramesWithin (table_of s) → WithinP s (records s)
  records_within well within j inside =
      let it = record_frame well j inside in
      let k = (record_of s j).task in
      omega (arith, within k (j - records_before (records s) s k) it.has, it.d, it.p)
