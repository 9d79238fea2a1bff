use Rattle.std.proofs.Common.{ap, ◌∙◌}
use Rattle.query_checks.specs.Forms.{call_forms}
use Rattle.having_filter.proofs.copying.calls_of.Goals as goal

pub returns : goal.returns
returns c = c.in_ok-copies.ensures ∙ ap call_forms c.deref.ensures.value ∙ c.in_ok-calls.ensures
