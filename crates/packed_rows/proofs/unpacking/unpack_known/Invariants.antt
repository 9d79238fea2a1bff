use Rattle.std.proofs.Common.{drop}
use Rattle.packed_rows.specs.View.{row_of, kinds_of}
use Rattle.packed_rows.proofs.RowLaws.{KnownSoFar}
use Rattle.packed_rows.proofs.unpacking.unpack_known.Given as goal

abbrev pub invariant-loop-kind : goal.invariant-loop-kind
invariant-loop-kind l = KnownSoFar (kinds_of l.kinds) (kinds_of (drop l.kind-index l.kinds)) l.bytes (row_of l.key.items) l.rest
    l.ends.items
