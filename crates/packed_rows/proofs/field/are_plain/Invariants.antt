use Rattle.std.proofs.Common.{take}
use Rattle.packed_rows.proofs.FieldLaws.{ArePlain}
use Rattle.packed_rows.proofs.field.are_plain.Given as goal

abbrev pub invariant-loop-byte : goal.invariant-loop-byte
invariant-loop-byte l = ArePlain (take l.byte-index l.bytes)
