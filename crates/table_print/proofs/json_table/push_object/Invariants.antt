use Rattle.std.proofs.Common.{◌≡◌, ◌++◌, codes, map, take}
use Rattle.std.specs.List.{join_by, zip}
use Rattle.agg_protocol.specs.Results.{outcome_of}
use Rattle.packed_rows.specs.View.{bytes_of}
use Rattle.table_print.specs.Json.{json_member}
use Rattle.table_print.proofs.json_table.push_object.Given as goal

abbrev pub invariant-loop-item : goal.invariant-loop-item
invariant-loop-item l = l.out.items ≡ (l.fn.out.items ++ codes "{")
    ++ join_by json_member (codes ",") (take l.item (zip (bytes_of l.names) (map outcome_of l.row)))
