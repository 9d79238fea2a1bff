use Rattle.std.proofs.Common.{◌≡◌, [], false, slice_index_or, take}
use Rattle.std.specs.List.{list_any}
use Rattle.std.specs.Str.{bytes_eq}
use Rattle.having_filter.specs.Kept.{headers}
use Rattle.table_print.proofs.json_table.is_repeated.Given as goal

abbrev pub invariant-loop-earlier : goal.invariant-loop-earlier
invariant-loop-earlier l = list_any (bytes_eq (slice_index_or (headers l.query) l.item [])) (take l.earlier (headers l.query)) ≡ false
