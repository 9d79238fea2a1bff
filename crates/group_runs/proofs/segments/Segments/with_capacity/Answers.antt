use Rattle.group_runs.proofs.SegmentLaws.{none_are}
use Rattle.group_runs.proofs.segments.Segments.with_capacity.Goals as goal

pub invariant_of-result : goal.invariant_of-result
invariant_of-result c = none_are c.in_ok-with_capacity.field-0.items c.in_ok-with_capacity-2.field-0.items
    c.in_ok-with_capacity.ensures.items c.in_ok-with_capacity-2.ensures.items
