use Rattle.std.specs.Prelude.{◌≡◌, map, take}
use Rattle.having_filter.proofs.Words.{call_form, item_form, source_of_form, source_of}
use Rattle.having_filter.proofs.plan.sources_of_items.Given as goal

abbrev pub invariant-loop-item : goal.invariant-loop-item
invariant-loop-item l = map source_of l.found.items ≡ map (λ item. source_of_form l.keys (map call_form l.calls) (item_form item.0))
    (take l.item-index l.items)
