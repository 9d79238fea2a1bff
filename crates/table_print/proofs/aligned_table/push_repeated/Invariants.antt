use Rattle.std.proofs.Common.{◌≡◌, ◌++◌, replicate}
use Rattle.table_print.proofs.aligned_table.push_repeated.Given as goal

abbrev pub invariant-loop : goal.invariant-loop
invariant-loop l = l.out.items ≡ l.fn.out.items ++ replicate l.counter l.byte
