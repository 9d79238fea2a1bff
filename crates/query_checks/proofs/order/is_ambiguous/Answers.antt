use Rattle.std.proofs.Common.{ap, sym, ◌∙◌}
use Rattle.query_checks.specs.Forms.{items_of}
use Rattle.query_checks.specs.Order.{By_name, is_ambiguous, target_of}
use Rattle.query_checks.proofs.order.is_ambiguous.Goals as goal

pub returns-in-Name : goal.returns-in-Name
returns-in-Name c =
    let items = c.args.items.now in
    c.is_ambiguous_name.ensures
    ∙ ap (λ name. is_ambiguous (items_of items) (By_name name)) c.as_str.ensures.value
    ∙ ap (λ target. is_ambiguous (items_of items) (target_of target)) (sym c.in-Name.is)
