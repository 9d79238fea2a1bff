use Rattle.std.proofs.Common.{Bor, String, Global, ap, sym, ◌∙◌, option_map, Option}
use Rattle.query_checks.specs.declared.condition.Item.{Item}
use Rattle.query_checks.proofs.OrderLaws.{leftmost_differs, none_named}
use Rattle.query_checks.proofs.order.is_ambiguous_name.Goals as goal

abbrev Named : Type 0
Named = Item (String Global) × Option (String Global)

pub returns-in-Some : goal.returns-in-Some
returns-in-Some c =
    let found = sym c.item_of_name.ensures ∙ ap (λ (o : Option (Bor Named)). option_map (λ (item : Bor Named). item.now) o) c.in-Some.is in
    c.has_unlike.ensures ∙ leftmost_differs c.args.name.now c.args.items.now c.in-Some.leftmost.now found

pub returns-in-None : goal.returns-in-None
returns-in-None c =
    let none = sym c.item_of_name.ensures ∙ ap (λ (o : Option (Bor Named)). option_map (λ (item : Bor Named). item.now) o) c.in-None.is in
    none_named c.args.name.now c.args.items.now none
