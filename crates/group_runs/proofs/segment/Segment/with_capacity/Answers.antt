use Rattle.group_runs.proofs.FlatLaws.{none_are}
use Rattle.group_runs.proofs.segment.Segment.with_capacity.Goals as goal

pub invariant_of-result : goal.invariant_of-result
invariant_of-result c = none_are c.in_ok-keys.keys.items c.in_ok-states.states.items c.in_ok-ends.ends.items c.in_ok-keys.ensures.items
    c.in_ok-states.ensures.items c.in_ok-ends.ensures.items
