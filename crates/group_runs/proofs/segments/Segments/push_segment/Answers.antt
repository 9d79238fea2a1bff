use Rattle.std.specs.Prelude.{◌+◌, ◌++◌, length}
use Rattle.std.proofs.Common.{sym, ◌∙◌, ap, subst, arith, rules}
use Rattle.group_runs.proofs.Words.{Rises, concatenated}
use Rattle.group_runs.proofs.SegmentLaws.{more_are}
use Rattle.group_runs.proofs.segments.Segments.push_segment.Goals as goal

pub invariant_of-self-2 : goal.invariant_of-self-2
invariant_of-self-2 c =
    let before = c.len.ensures.length ∙ ap (λ cs. length (concatenated cs)) (sym c.self.view_is) in
    let long = c.len-2.ensures.length in
    more_are c.self.inside.segments.items c.push.new.self.items c.self.inside.ends.items c.push-2.new.self.items c.args.segment
    (c.len.result + c.len-2.result) c.self.invariant (search rules) (search rules) (omega (arith, before, long))
    (subst (λ cs. Rises (concatenated cs ++ c.args.segment)) (sym c.self.view_is) c.requires.rises)
