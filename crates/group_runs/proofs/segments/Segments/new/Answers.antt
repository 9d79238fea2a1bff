use Rattle.group_runs.proofs.SegmentLaws.{none_are}
use Rattle.group_runs.proofs.segments.Segments.new.Goals as goal

pub invariant_of-result : goal.invariant_of-result
invariant_of-result c = none_are c.new.result.items c.new-2.result.items c.new.ensures.items c.new-2.ensures.items
