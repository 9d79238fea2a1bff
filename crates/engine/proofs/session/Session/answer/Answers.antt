use Rattle.std.specs.Prelude.{IfOk}
use Rattle.std.proofs.Common.{subst}
use Rattle.engine.specs.Calls.{IsTableOf}
use Rattle.engine.specs.Sessions.{SessionState}
use Rattle.engine.proofs.session.Session.answer.Goals as goal

pub returns : goal.returns
returns c =
    subst (λ (s : SessionState). IfOk c.table.result (λ found. IsTableOf c.args.format s.held found.0 found.1.items)) c.self.view_is
    c.table.ensures
