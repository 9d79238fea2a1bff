use Rattle.std.proofs.Common.{◌≡◌, take}
use Rattle.packed_rows.specs.View.{bytes_of}
use Rattle.having_filter.specs.Kept.{headers}
use Rattle.table_print.specs.Json.{json_names}
use Rattle.table_print.proofs.json_table.names_of.Given as goal

abbrev pub invariant-loop-item : goal.invariant-loop-item
invariant-loop-item l = bytes_of l.names.items ≡ take l.item (json_names (headers l.query))
