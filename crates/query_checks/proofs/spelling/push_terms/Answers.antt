use Rattle.std.proofs.Common.{◌++◌, map, ap, sym, ◌∙◌, append_assoc, string_bytes}
use Rattle.query_checks.specs.Order.{term_text}
use Rattle.query_checks.specs.Parted.{parted}
use Rattle.query_checks.proofs.SpellingLaws.{followed, parted_first}
use Rattle.query_checks.proofs.spelling.push_terms.Goals as goal

pub loop-term-init : goal.loop-term-init
loop-term-init c =
    let text = string_bytes c.args.text.now in let rest = map term_text c.in-Some.rest.now in
    let first = term_text c.in-Some.first.now in
    ap (λ t. t ++ followed rest) c.in_ok-push_term.ensures ∙ append_assoc text first (followed rest)
    ∙ ap (λ those. text ++ those) (sym (parted_first first rest))
    ∙ ap (λ terms. text ++ parted (map term_text terms)) (sym c.in-Some.ensures.cases.0)
