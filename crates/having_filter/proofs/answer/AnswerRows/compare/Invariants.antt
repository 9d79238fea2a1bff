use Rattle.std.specs.Prelude.{◌≡◌, [], map, drop, slice_index_or}
use Rattle.having_filter.proofs.Words.{order_term, terms_cmp}
use Rattle.having_filter.proofs.answer.AnswerRows.compare.Given as goal

abbrev pub invariant-loop-term : goal.invariant-loop-term
invariant-loop-term l =
    terms_cmp (map order_term l.fn.terms) (slice_index_or l.fn.self l.fn.a []) (slice_index_or l.fn.self l.fn.b [])
    ≡ terms_cmp (map order_term (drop l.term-index l.fn.terms)) (slice_index_or l.fn.self l.fn.a []) (slice_index_or l.fn.self l.fn.b [])
