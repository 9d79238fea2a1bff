use Rattle.std.specs.Prelude.{◌≡◌, ◌++◌, drop, string_bytes}
use Rattle.packed_rows.specs.View.{texts_of}
use Rattle.query_checks.specs.Parted.{parted}
use Rattle.query_checks.proofs.SpellingLaws.{followed}
use Rattle.query_checks.proofs.spelling.push_names.Given as goal

abbrev pub invariant-loop-name : goal.invariant-loop-name
invariant-loop-name l =
    string_bytes l.text ++ followed (texts_of (drop l.name-index l.rest)) ≡ string_bytes l.fn.text ++ parted (texts_of l.fn.names)
