use Rattle.std.specs.Prelude.{◌-◌, length}
use Rattle.std.proofs.Common.{◌∙◌, ap, arith}
use Rattle.group_runs.proofs.SegmentLaws.{got_same, group_in}
use Rattle.group_runs.proofs.segments.Segments.group.Goals as goal

pub returns : goal.returns
returns c =
    let a = c.segment_of-at.ensures in
    let long = ap length (got_same c.args.self.now c.segment_of-at.result a.segment c.segment.result.now a.is c.segment.ensures) in
    let behind = a.behind in
    let within = a.within in
    let started = c.start-start.ensures in
    group_in c.args.self.now c.args.place c.segment_of-at.result c.segment.result.now (c.args.place - c.start-start.result)
    c.segment.ensures (omega (arith, behind, started)) (omega (arith, long, behind, within, started))
    ∙ c.group.ensures
