use Rattle.std.specs.Prelude.{◌≡◌, ◌∷◌, length, slice_index_or}
use Rattle.std.proofs.Common.{◌∙◌, ap, rules}
use Rattle.packed_rows.specs.ConcatenatedRows.{concatenated}
use Rattle.group_runs.proofs.SegmentLaws.{whole_is}
use Rattle.group_runs.proofs.segments.Segments.len.Goals as goal

pub returns-clause-length : goal.returns-clause-length
returns-clause-length c =
    let counted : c.len.result ≡ length c.self.inside.ends.items = search rules in
    c.bound.ensures
    ∙ (λ i. slice_index_or (0 ∷ c.deref.ensures.value i) (counted i) 0)
    ∙ whole_is c.self.inside.segments.items c.self.inside.ends.items c.self.invariant.ends_are
    ∙ ap (λ cs. length (concatenated cs)) c.self.view_is
