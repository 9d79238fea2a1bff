use Rattle.std.specs.Prelude.{◌≡◌, ◌++◌, [], length}
use Rattle.std.proofs.Common.{sym, ◌∙◌, ap, subst, append-nil, arith}
use Rattle.std.specs.Vec.Iter.{into_iter_items}
use Rattle.packed_rows.specs.ConcatenatedRows.{concatenated}
use Rattle.group_runs.specs.Segments.{AreCut, all_pieces}
use Rattle.group_runs.proofs.SegmentLaws.{cut_none, none_long}
use Rattle.group_runs.proofs.segments.place_all.Goals as goal

pub returns-clause-same : goal.returns-clause-same
returns-clause-same c =
    let segments = into_iter_items c.loop-pieces.segments in
    let none = none_long (into_iter_items c.loop-pieces.cuts)
    (omega (arith, c.loop-pieces.invariant.long, c.in_default.ensures.cases.0)) in
    let all : segments ≡ [] = cut_none segments (subst (λ cs. AreCut segments (all_pieces cs)) none c.loop-pieces.invariant.cut) in
    sym (append-nil (concatenated c.loop-pieces.placed.items))
    ∙ ap (λ ss. concatenated c.loop-pieces.placed.items ++ concatenated ss) (sym all)
    ∙ c.loop-pieces.invariant.same
    ∙ ap (λ ss. concatenated c.args.placed.now.items ++ concatenated ss) c.into_iter-segments.ensures.rest

pub returns-clause-many : goal.returns-clause-many
returns-clause-many c =
    let segments = into_iter_items c.loop-pieces.segments in
    let none = none_long (into_iter_items c.loop-pieces.cuts)
    (omega (arith, c.loop-pieces.invariant.long, c.in_default.ensures.cases.0)) in
    let all : segments ≡ [] = cut_none segments (subst (λ cs. AreCut segments (all_pieces cs)) none c.loop-pieces.invariant.cut) in
    let left = ap length all in
    let had = ap length c.into_iter-segments.ensures.rest in
    let many = c.loop-pieces.invariant.many in
    omega (arith, left, had, many)
