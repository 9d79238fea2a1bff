use Rattle.std.proofs.Common.{◌≡◌, ◌++◌, take}
use Rattle.table_print.specs.Tsv.{tsv_value}
use Rattle.table_print.proofs.tsv_table.push_value.Given as goal

abbrev pub invariant-loop-byte : goal.invariant-loop-byte
invariant-loop-byte l = l.out.items ≡ l.fn.out.items ++ tsv_value (take l.byte-index l.text)
