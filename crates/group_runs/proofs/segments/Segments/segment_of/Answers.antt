use Rattle.std.specs.Prelude.{◌+◌, ◌<◌, ◌≤◌, ◌∷◌, length, slice_index_or}
use Rattle.std.proofs.Common.{sym, ◌∙◌, ap, subst}
use Rattle.group_runs.proofs.Words.{concatenated, IsAmong}
use Rattle.group_runs.proofs.SegmentLaws.{some_end, whole_is, among}
use Rattle.group_runs.proofs.segments.Segments.segment_of.Goals as goal

pub locate-requires-clause-some : goal.locate-requires-clause-some
locate-requires-clause-some c =
    subst (λ ends. 0 < length ends) (sym c.deref.ensures.value)
    (some_end c.self.inside.segments.items c.self.inside.ends.items c.args.place c.self.invariant.ends_are
    (subst (λ cs. c.args.place < length (concatenated cs)) (sym c.self.view_is) c.requires))

pub locate-requires-clause-within : goal.locate-requires-clause-within
locate-requires-clause-within c =
    subst (λ ends. c.args.place < slice_index_or (0 ∷ ends) (length ends) 0) (sym c.deref.ensures.value)
    (subst (λ n. c.args.place < n) (sym (whole_is c.self.inside.segments.items c.self.inside.ends.items c.self.invariant.ends_are
    ∙ ap (λ cs. length (concatenated cs)) c.self.view_is)) c.requires)

pub returns : goal.returns
returns c =
    let at = c.locate.result in
    subst (λ cs. IsAmong cs c.args.place at) c.self.view_is
    (among c.self.inside.segments.items c.self.inside.ends.items c.args.place at c.self.invariant.ends_are
    (subst (λ ends. at < length ends) c.deref.ensures.value c.locate.ensures.there)
    (subst (λ ends. slice_index_or (0 ∷ ends) at 0 ≤ c.args.place) c.deref.ensures.value c.locate.ensures.behind)
    (subst (λ ends. c.args.place < slice_index_or (0 ∷ ends) (at + 1) 0) c.deref.ensures.value c.locate.ensures.before))
