use Rattle.std.specs.Prelude.{◌≡◌, ◌+◌, ◌++◌, ◌∷◌, [], take, slice_get, Some}
use Rattle.std.proofs.Common.{sym, ◌∙◌, ap, subst, arith}
use Rattle.std.proofs.lemmas.List.{take_all, map_push}
use Rattle.group_runs.specs.Segments.{AreCut, all_pieces, cut_count}
use Rattle.group_runs.proofs.SegmentLaws.{cut_more, cut_count_more, got_by}
use Rattle.group_runs.specs.PlaceLaws.{take_found}
use Rattle.group_runs.proofs.segments.Segments.cuts.Goals as goal

pub loop-segment-init : goal.loop-segment-init
loop-segment-init c = let none = c.in_ok-cuts.ensures.items in record {
  cut = subst (λ cs. AreCut [] (all_pieces cs)) (sym none) tt;
  count = ap (λ cs. cut_count (all_pieces cs)) (sym none);
}

pub loop-segment-preserved : goal.loop-segment-preserved
loop-segment-preserved c =
    let items = c.deref-segment-items.result.now in
    let i = c.loop-segment.segment-index in
    let item = c.segment-item.result in
    let at : slice_get items i ≡ Some item = got_by items i item c.loop-segment-test.true c.segment-item.is in
    let pieces = c.in_ok-pieces.pieces in
    let old = all_pieces c.loop-segment.cuts.items in
    let new : all_pieces c.push.new.self.items ≡ old ++ pieces.items ∷ [] = ap all_pieces c.in_ok-push.ensures.items
    ∙ map_push (λ ps. ps.items) c.loop-segment.cuts.items pieces in
    let counted = ap cut_count new in
    let more = cut_count_more old pieces.items in
    let before = c.loop-segment.invariant.count in
    let told = c.in_ok-count.ensures in
    record {
      cut = subst (λ cs. AreCut (take (i + 1) items) cs) (sym new)
          (subst (λ ss. AreCut ss (old ++ pieces.items ∷ [])) (sym (take_found items i item at))
          (cut_more (take i items) old item pieces.items c.loop-segment.invariant.cut c.in_ok-pieces.ensures));
      count = omega (arith, counted, more, before, told);
    }

pub returns-clause-cut : goal.returns-clause-cut
returns-clause-cut c =
    let items = c.deref-segment-items.result.now in
    let past = c.loop-segment-test.false in
    subst (λ ss. AreCut ss (all_pieces c.loop-segment.cuts.items))
    (take_all c.loop-segment.segment-index items (omega (arith, past)) ∙ c.deref-segment-items.ensures.value ∙ c.self.view_is)
    c.loop-segment.invariant.cut
