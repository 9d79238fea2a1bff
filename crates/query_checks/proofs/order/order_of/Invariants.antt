use Rattle.std.specs.Prelude.{◌≡◌, take}
use Rattle.std.specs.List.{filter_map}
use Rattle.query_checks.specs.Forms.{items_of}
use Rattle.query_checks.specs.Order.{term_of, term_meant, same_item}
use Rattle.query_checks.specs.Sameness.{first_of_each}
use Rattle.query_checks.proofs.order.order_of.Given as goal

abbrev pub invariant-loop-term : goal.invariant-loop-term
invariant-loop-term l =
    l.order.items ≡ first_of_each same_item (filter_map (λ term. term_meant (items_of l.raw.items.items) (term_of term))
    (take l.term-index l.raw.order.items))
