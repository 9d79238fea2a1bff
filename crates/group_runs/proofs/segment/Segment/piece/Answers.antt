use Rattle.std.specs.Prelude.{◌++◌, slice_range}
use Rattle.std.proofs.Common.{sym, ◌∙◌, ap, subst}
use Rattle.group_runs.specs.Runs.{Rises}
use Rattle.group_runs.proofs.SegmentLaws.{range_rises}
use Rattle.group_runs.proofs.segment.Segment.piece.Goals as goal

pub push_range-requires-clause-rises : goal.push_range-requires-clause-rises
push_range-requires-clause-rises c =
    subst (λ es. Rises (es ++ slice_range c.args.self.now c.args.from c.args.to)) (sym c.in_ok-piece.ensures)
    (range_rises c.args.self.now c.args.from c.args.to c.len-rising.ensures.rises)

pub returns : goal.returns
returns c =
    c.in_ok-push_range.ensures.pushed ∙ ap (λ es. es ++ slice_range c.args.self.now c.args.from c.args.to) c.in_ok-piece.ensures
