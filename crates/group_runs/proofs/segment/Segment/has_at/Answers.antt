use Rattle.group_runs.proofs.PlaceLaws.{has_here, has_none}
use Rattle.group_runs.proofs.segment.Segment.has_at.Goals as goal

pub returns-then-place-len : goal.returns-then-place-len
returns-then-place-len c = has_here c.args.self.now c.args.place (c.group.result.0.now, c.group.result.1.now) c.args.key.now c.eq.result
    c.group.ensures c.eq.ensures

pub returns-else-place-len : goal.returns-else-place-len
returns-else-place-len c = has_none c.args.self.now c.args.place c.len.result c.args.key.now c.len.ensures.length c.if-place-len.false
