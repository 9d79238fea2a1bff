use Rattle.std.proofs.Common.{ap, sym, ◌∙◌}
use Rattle.query_checks.specs.Forms.{items_of}
use Rattle.query_checks.specs.Order.{By_name, item_meant, target_of}
use Rattle.query_checks.proofs.OrderLaws.{position_named}
use Rattle.query_checks.proofs.order.item_meant.Goals as goal

pub returns-in-Name : goal.returns-in-Name
returns-in-Name c =
    let items = c.args.items.now in
    c.place_of_name.ensures ∙ position_named c.as_str.result.now items
    ∙ ap (λ name. item_meant (items_of items) (By_name name)) c.as_str.ensures.value
    ∙ ap (λ target. item_meant (items_of items) (target_of target)) (sym c.in-Name.is)
