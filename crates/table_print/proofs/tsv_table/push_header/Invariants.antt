use Rattle.std.proofs.Common.{◌≡◌, ◌∷◌, ◌++◌, [], take}
use Rattle.std.specs.List.{join_by}
use Rattle.having_filter.specs.Kept.{headers}
use Rattle.table_print.specs.Tsv.{tsv_value}
use Rattle.table_print.proofs.tsv_table.push_header.Given as goal

abbrev pub invariant-loop-item : goal.invariant-loop-item
invariant-loop-item l = l.out.items ≡ l.fn.out.items ++ join_by tsv_value (9 ∷ []) (take l.item (headers l.query))
