use Rattle.std.proofs.Common.{◌++◌, map, option_map, ap, sym, ◌∙◌, append_assoc, string_bytes}
use Rattle.query_checks.specs.Forms.{names_of, item_form, items_of}
use Rattle.query_checks.specs.Spelling.{item_text}
use Rattle.query_checks.specs.Parted.{parted}
use Rattle.query_checks.proofs.SpellingLaws.{followed, parted_first}
use Rattle.query_checks.proofs.spelling.push_items.Goals as goal

pub loop-item-init : goal.loop-item-init
loop-item-init c =
    let text = string_bytes c.args.text.now in let rest = map item_text (items_of c.in-Some.rest.now) in
    let first = item_text (names_of (item_form c.in-Some.first.now.0), option_map string_bytes c.in-Some.first.now.1) in
    ap (λ t. t ++ followed rest) c.in_ok-push_item.ensures ∙ append_assoc text first (followed rest)
    ∙ ap (λ those. text ++ those) (sym (parted_first first rest))
    ∙ ap (λ items. text ++ parted (map item_text (items_of items))) (sym c.in-Some.ensures.cases.0)
