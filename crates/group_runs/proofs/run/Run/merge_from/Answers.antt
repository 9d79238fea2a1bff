use Rattle.std.specs.Prelude.{OnOk}
use Rattle.std.proofs.Common.{subst}
use Rattle.group_runs.proofs.Words.{functions_of, AddsRunOf, concatenated}
use Rattle.group_runs.proofs.run.Run.merge_from.Goals as goal

pub returns-clause-added : goal.returns-clause-added
returns-clause-added c =
    subst (λ old. OnOk c.merge_from.result (AddsRunOf (functions_of c.args.kinds.now) old c.args.more.now (concatenated c.merge_from.new.self)))
    c.self.view_is
    (subst (λ more. OnOk c.merge_from.result (AddsRunOf (functions_of c.args.kinds.now) (concatenated c.self.inside.segments) more
    (concatenated c.merge_from.new.self))) c.more.view_is c.merge_from.ensures.added)
