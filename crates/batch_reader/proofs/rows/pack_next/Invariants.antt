use Rattle.std.specs.Prelude.{◌≡◌, ◌≤◌, drop, length, take}
use Rattle.packed_rows.specs.Columns.{kinds}
use Rattle.batch_reader.proofs.RecordLaws.{KeptSoFar}
use Rattle.batch_reader.proofs.rows.pack_next.Given as goal

abbrev pub invariant-loop-row : goal.invariant-loop-row
invariant-loop-row l = record {
  left : l.records ≡ drop l.row l.fn.records;
  within : l.row ≤ length l.fn.records;
  kept : KeptSoFar (kinds l.schema) (take l.told l.fn.records) l.row l.fault l.rows;
}
