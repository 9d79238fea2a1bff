use Rattle.std.specs.Prelude.{◌≡◌, length}
use Rattle.std.proofs.Common.{sym, ◌∙◌, ap, rules}
use Rattle.group_runs.proofs.FlatLaws.{cut_long}
use Rattle.group_runs.proofs.segment.Segment.len.Goals as goal

pub returns-clause-length : goal.returns-clause-length
returns-clause-length c =
    let counted : c.len.result ≡ length c.self.inside.ends.items = search rules in
    counted ∙ sym (cut_long c.self.inside.keys.items c.self.inside.states.items (0, 0) c.self.inside.ends.items) ∙ ap length c.self.view_is
