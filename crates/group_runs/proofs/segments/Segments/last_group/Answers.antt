use Rattle.std.specs.Prelude.{◌+◌, ◌-◌}
use Rattle.std.proofs.Common.{◌∙◌, arith}
use Rattle.group_runs.proofs.SegmentLaws.{front_few, next_start, group_in}
use Rattle.group_runs.proofs.segments.Segments.last_group.Goals as goal

pub group-requires : goal.group-requires
group-requires c =
    let next = next_start c.args.self.now c.args.at c.segment.result.now c.segment.ensures in
    let ended = c.requires.end in
    let started = c.start-start.ensures in
    let some = c.if-start-end.true in
    omega (arith, next, ended, started, some)

pub returns-then-start-end : goal.returns-then-start-end
returns-then-start-end c =
    let next = next_start c.args.self.now c.args.at c.segment.result.now c.segment.ensures in
    let ended = c.requires.end in
    let started = c.start-start.ensures in
    let some = c.if-start-end.true in
    group_in c.args.self.now (c.args.end - 1) c.args.at c.segment.result.now (c.args.end - 1 - c.start-start.result) c.segment.ensures
    (omega (arith, started, some)) (omega (arith, next, ended, started, some))
    ∙ c.group.ensures

pub group-requires-2 : goal.group-requires-2
group-requires-2 c =
    let some = c.requires.some in
    let all = front_few c.args.self.now (c.args.at + 1) in
    let ended = c.requires.end in
    omega (arith, some, all, ended)
