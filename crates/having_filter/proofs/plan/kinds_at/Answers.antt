use Rattle.std.specs.Prelude.{◌++◌, [], ◌∷◌, map, slice_index_or}
use Rattle.std.proofs.Common.{sym, ◌∙◌, ap}
use Rattle.std.proofs.lemmas.List.{map-append, map_more, take_all}
use Rattle.having_filter.proofs.Words.{Bigint_kind, kind_of, kinds_of}
use Rattle.having_filter.proofs.plan.kinds_at.Goals as goal

pub loop-place-preserved : goal.loop-place-preserved
loop-place-preserved c =
    ap kinds_of c.in_ok-push.ensures.items
    ∙ map-append kind_of c.loop-place.found.items (c.kind_at.result ∷ [])
    ∙ (λ i. c.loop-place.invariant i ++ c.kind_at.ensures i ∷ [])
    ∙ sym (map_more (λ at. slice_index_or (kinds_of c.args.kinds.now) at Bigint_kind) c.args.places.now c.loop-place.place-index 0
    c.loop-place-test.true)

pub returns : goal.returns
returns c =
    c.loop-place.invariant
    ∙ ap (map (λ at. slice_index_or (kinds_of c.args.kinds.now) at Bigint_kind)) (take_all c.loop-place.place-index c.args.places.now
    c.loop-place-test.false)
