use Rattle.std.specs.Prelude.{◌≡◌, map, take, string_bytes}
use Rattle.packed_rows.specs.View.{texts_of}
use Rattle.query_checks.proofs.limits.borrowed_names.Given as goal

abbrev pub invariant-loop-name : goal.invariant-loop-name
invariant-loop-name l = texts_of l.borrowed.items ≡ map string_bytes (take l.name-index l.names)
