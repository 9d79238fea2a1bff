use Rattle.std.proofs.Common.{sym, ◌∙◌, ap}
use Rattle.std.specs.Prelude.{length}
use Rattle.group_runs.proofs.SegmentLaws.{ends_many, replaced_long}
use Rattle.group_runs.proofs.segments.Segments.replace.Goals as goal

pub count_all-requires-clause-one_each : goal.count_all-requires-clause-one_each
count_all-requires-clause-one_each c =
    ends_many c.self.inside.segments.items c.self.inside.ends.items c.self.invariant.ends_are
    ∙ sym (ap length (c.deref.ensures.value ∙ c.put_all.ensures) ∙ replaced_long c.args.fresh.items c.self.inside.segments.items)
