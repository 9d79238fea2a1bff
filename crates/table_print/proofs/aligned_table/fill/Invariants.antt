use Rattle.std.proofs.Common.{◌≡◌, take}
use Rattle.table_print.specs.Aligned.{shown}
use Rattle.table_print.proofs.aligned_table.fill.Given as goal

abbrev pub invariant-loop-byte : goal.invariant-loop-byte
invariant-loop-byte l = l.out.items ≡ shown (take l.byte-index l.text)
