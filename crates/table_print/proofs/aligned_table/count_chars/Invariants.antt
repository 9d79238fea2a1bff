use Rattle.std.proofs.Common.{◌≡◌, ◌≤◌, take}
use Rattle.std.specs.Fmt.{char_count}
use Rattle.table_print.proofs.aligned_table.count_chars.Given as goal

abbrev pub invariant-loop-byte : goal.invariant-loop-byte
invariant-loop-byte l = (l.count ≡ char_count (take l.byte-index l.text)) × (l.count ≤ l.byte-index)
