use Rattle.std.proofs.Common.{sym, ◌∙◌}
use Rattle.group_runs.specs.StandingLaws.{stands_spelled}
use Rattle.hash_agg.proofs.laws.same_run.Goals as goal

pub returns : goal.returns
returns c = λ query m n run other groups are these. (stands_spelled query m run groups are).0
    ∙ sym (stands_spelled query n other groups these).0
