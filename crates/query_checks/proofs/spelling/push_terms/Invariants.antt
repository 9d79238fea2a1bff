use Rattle.std.specs.Prelude.{◌≡◌, ◌++◌, drop, map, string_bytes}
use Rattle.query_checks.specs.Order.{term_text}
use Rattle.query_checks.specs.Parted.{parted}
use Rattle.query_checks.proofs.SpellingLaws.{followed}
use Rattle.query_checks.proofs.spelling.push_terms.Given as goal

abbrev pub invariant-loop-term : goal.invariant-loop-term
invariant-loop-term l =
    string_bytes l.text ++ followed (map term_text (drop l.term-index l.rest)) ≡ string_bytes l.fn.text ++ parted (map term_text l.fn.order)
