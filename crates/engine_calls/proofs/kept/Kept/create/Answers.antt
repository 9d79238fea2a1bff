use Rattle.std.specs.Prelude.{Err}
use Rattle.std.proofs.Common.{ap, sym, ◌∙◌}
use Rattle.list_laws.specs.Outcomes.{none_there}
use Rattle.engine.specs.Calls.{Creates}
use Rattle.engine.specs.declared.status.Status.{Status}
use Rattle.engine_calls.specs.Keeping.{KeptState}
use Rattle.engine_calls.proofs.KeptLaws.{unopened}
use Rattle.engine_calls.proofs.kept.Kept.create.Goals as goal

pub returns-in-Err-clause-opens : goal.returns-in-Err-clause-opens
returns-in-Err-clause-opens c =
    let none = none_there c.self.inside.session (sym c.is_some.ensures ∙ c.if-is_some.false) in
    let was = sym (ap (λ (k : KeptState). k.session) c.self.view_is) ∙ none in
    unopened (Creates c.args.columns.now c.args.query.now c.args.limit c.args.seed) c.in-Err.why c.args.self.now.session
    c.refuse.new.self.session c.args.self.now.why c.refuse.new.self.why _
    was (c.refuse.ensures.session ∙ was) c.in-Err.ensures c.refuse.ensures.last (ap (λ (e : Status). Err e) c.refuse.ensures.status)
