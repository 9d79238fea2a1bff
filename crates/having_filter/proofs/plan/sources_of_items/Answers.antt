use Rattle.std.specs.Prelude.{◌++◌, [], ◌∷◌, map}
use Rattle.std.proofs.Common.{sym, ◌∙◌, ap}
use Rattle.std.proofs.lemmas.List.{map-append, map_more, take_all}
use Rattle.having_filter.proofs.Words.{call_form, item_form, source_of_form, source_of}
use Rattle.having_filter.proofs.plan.sources_of_items.Goals as goal

pub loop-item-preserved : goal.loop-item-preserved
loop-item-preserved c =
    let found = source_of_form c.args.keys.now (map call_form c.args.calls.now) in
    ap (map source_of) c.in_ok-push.ensures.items
    ∙ map-append source_of c.loop-item.found.items (c.source_of_item.result ∷ [])
    ∙ (λ i. c.loop-item.invariant i ++ (c.source_of_item.ensures ∙ ap (λ item. found (item_form item.0)) c.item-item.is) i ∷ [])
    ∙ sym (map_more (λ item. found (item_form item.0)) c.args.items.now c.loop-item.item-index c.item-item.result c.loop-item-test.true)

pub returns : goal.returns
returns c =
    c.loop-item.invariant
    ∙ ap (map (λ item. source_of_form c.args.keys.now (map call_form c.args.calls.now) (item_form item.0)))
    (take_all c.loop-item.item-index c.args.items.now c.loop-item-test.false)
