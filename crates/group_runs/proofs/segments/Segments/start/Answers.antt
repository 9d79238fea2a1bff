use Rattle.std.specs.Prelude.{◌∷◌, length, take, slice_index_or}
use Rattle.std.proofs.Common.{◌∙◌, ap, arith}
use Rattle.packed_rows.specs.ConcatenatedRows.{concatenated}
use Rattle.group_runs.proofs.SegmentLaws.{start_is, ends_many}
use Rattle.group_runs.proofs.segments.Segments.start.Goals as goal

pub bound-requires : goal.bound-requires
bound-requires c =
    let many = ends_many c.self.inside.segments.items c.self.inside.ends.items c.self.invariant.ends_are in
    let same = ap length c.deref.ensures.value in
    let view = ap length c.self.view_is in
    let low = c.requires in
    omega (arith, many, same, view, low)

pub returns : goal.returns
returns c =
    let view = ap length c.self.view_is in
    let low = c.requires in
    c.bound.ensures
    ∙ ap (λ ends. slice_index_or (0 ∷ ends) c.args.segments 0) c.deref.ensures.value
    ∙ start_is c.self.inside.segments.items c.self.inside.ends.items c.args.segments c.self.invariant.ends_are (omega (arith, view, low))
    ∙ ap (λ cs. length (concatenated (take c.args.segments cs))) c.self.view_is
