use Rattle.std.specs.Prelude.{◌≡◌, map, take}
use Rattle.query_checks.specs.Forms.{call_form, call_forms}
use Rattle.having_filter.proofs.copying.copied_calls.Given as goal

abbrev pub invariant-loop-call : goal.invariant-loop-call
invariant-loop-call l = map call_form l.copies.items ≡ call_forms (take l.call-index l.calls)
