use Rattle.std.specs.Prelude.{◌≡◌}
use Rattle.command_files.specs.Reporting.{OnlySays}
use Rattle.command_files.proofs.session.Session.explain_holding.Given as goal

abbrev pub invariant-loop-line : goal.invariant-loop-line
invariant-loop-line g l =
    record { says : OnlySays l.fn.self.reporter l.self.reporter; passed : l.self.passed ≡ l.fn.self.passed }
