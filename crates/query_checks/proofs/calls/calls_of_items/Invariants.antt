use Rattle.std.specs.Prelude.{◌≡◌, take}
use Rattle.query_checks.specs.Forms.{call_forms}
use Rattle.query_checks.proofs.CountLaws.{item_calls}
use Rattle.query_checks.proofs.calls.calls_of_items.Given as goal

abbrev pub invariant-loop-item : goal.invariant-loop-item
invariant-loop-item g l = call_forms l.calls.items ≡ item_calls (take l.item-index l.items)
