use Rattle.std.proofs.Common.{◌++◌, ap, sym, ◌∙◌, append_assoc, string_bytes}
use Rattle.packed_rows.specs.View.{texts_of}
use Rattle.query_checks.specs.Parted.{parted}
use Rattle.query_checks.proofs.SpellingLaws.{followed, parted_first}
use Rattle.query_checks.proofs.spelling.push_names.Goals as goal

pub loop-name-init : goal.loop-name-init
loop-name-init c =
    let text = string_bytes c.args.text.now in let rest = texts_of c.in-Some.rest.now in
    ap (λ t. t ++ followed rest) c.in_ok-push_str.ensures.bytes ∙ append_assoc text c.in-Some.first.now.now (followed rest)
    ∙ ap (λ those. text ++ those) (sym (parted_first c.in-Some.first.now.now rest))
    ∙ ap (λ names. text ++ parted (texts_of names)) (sym c.in-Some.ensures.cases.0)
