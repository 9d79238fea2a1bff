use Rattle.std.proofs.Common.{◌≡◌, ◌≤◌, drop, length, flat_map, take}
use Rattle.std.specs.Prelude.{All}
use Rattle.csv.specs.Writing.{default_writer, row_text}
use Rattle.plain_batches.specs.Columns.{arranged}
use Rattle.script_io.specs.LineWriter.{IsBetween, Writes}
use Rattle.plain_batches.proofs.rows.put_rows.Given as goal

abbrev pub invariant-loop-row : goal.invariant-loop-row
invariant-loop-row l = record {
  left : l.records ≡ drop l.row l.fn.records;
  within : l.row ≤ length l.fn.records;
  widths : All (λ fields. length fields ≡ l.width) (take l.row l.fn.records);
  between : IsBetween l.writer;
  lines : Writes l.fn.writer l.writer (flat_map (λ fields. row_text default_writer (arranged l.null l.places fields)) (take l.row
      l.fn.records));
}
