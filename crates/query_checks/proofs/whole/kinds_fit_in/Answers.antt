use Rattle.std.proofs.Common.{ap, ◌∙◌}
use Rattle.query_checks.specs.Checks.{kinds_fit}
use Rattle.query_checks.specs.Parts.{written_of_parts}
use Rattle.query_checks.proofs.whole.kinds_fit_in.Goals as goal

pub returns : goal.returns
returns c = c.kinds_fit.ensures ∙ ap (λ kinds. kinds_fit kinds (written_of_parts c.args.parts.now)) c.kinds.ensures
