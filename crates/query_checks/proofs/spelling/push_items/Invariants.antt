use Rattle.std.specs.Prelude.{◌≡◌, ◌++◌, drop, map, string_bytes}
use Rattle.query_checks.specs.Forms.{items_of}
use Rattle.query_checks.specs.Spelling.{item_text}
use Rattle.query_checks.specs.Parted.{parted}
use Rattle.query_checks.proofs.SpellingLaws.{followed}
use Rattle.query_checks.proofs.spelling.push_items.Given as goal

abbrev pub invariant-loop-item : goal.invariant-loop-item
invariant-loop-item l =
    string_bytes l.text ++ followed (map item_text (items_of (drop l.item-index l.rest))) ≡ string_bytes l.fn.text
    ++ parted (map item_text (items_of l.fn.items))
