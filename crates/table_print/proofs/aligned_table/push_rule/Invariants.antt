use Rattle.std.proofs.Common.{◌≡◌, ◌++◌, codes, replicate, take}
use Rattle.std.specs.List.{join_by}
use Rattle.table_print.proofs.aligned_table.push_rule.Given as goal

abbrev pub invariant-loop-item : goal.invariant-loop-item
invariant-loop-item l = l.out.items ≡ l.fn.out.items ++ join_by (λ column. replicate column.width 45) (codes "-+-") (take l.item l.columns)
