use Rattle.std.specs.Prelude.{◌≡◌, map, take}
use Rattle.query_checks.specs.Forms.{items_of, places_of, map_form}
use Rattle.query_checks.specs.Checks.{place}
use Rattle.query_checks.specs.Spelling.{own_name, kept_alias}
use Rattle.query_checks.proofs.parts.placed_items.Given as goal

abbrev pub invariant-loop-item : goal.invariant-loop-item
invariant-loop-item l = places_of l.done.items ≡ map (λ item. (map_form (place l.schema) item.0, kept_alias (own_name item.0) item.1))
    (items_of (take l.item-index l.items))
