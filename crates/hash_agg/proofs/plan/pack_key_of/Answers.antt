use Rattle.std.specs.Prelude.{◌<◌, length, map}
use Rattle.std.proofs.Common.{sym, ◌∙◌, ap, subst}
use Rattle.std.proofs.lemmas.List.{take_all}
use Rattle.std.specs.List.{AllByRecursion}
use Rattle.hash_agg.proofs.Words.{at_place, Query, row_of, packing, meaning}
use Rattle.hash_agg.proofs.KeyLaws.{place_within, key_more}
use Rattle.hash_agg.proofs.plan.pack_key_of.Goals as goal

pub bounds-row-place : goal.bounds-row-place
bounds-row-place c =
    let q : Query = meaning c.args.query.now in
    place_within q.kinds c.args.row.now c.keys-place-items.result.now c.loop-place.place-index c.requires.row
    (subst (AllByRecursion (λ place. place < length q.kinds)) (sym c.keys-place-items.ensures.keys) c.requires.formed.keys)
    c.loop-place-test.true

pub loop-place-preserved : goal.loop-place-preserved
loop-place-preserved c =
    let q : Query = meaning c.args.query.now in
    let within = place_within q.kinds c.args.row.now c.keys-place-items.result.now c.loop-place.place-index c.requires.row
    (subst (AllByRecursion (λ place. place < length q.kinds)) (sym c.keys-place-items.ensures.keys) c.requires.formed.keys)
    c.loop-place-test.true in
    c.in_ok-pack_value.ensures
    ∙ key_more c.args.row.now c.loop-place.key.items c.keys-place-items.result.now c.loop-place.place-index _ c.loop-place-test.true within
    c.loop-place.invariant

pub returns : goal.returns
returns c =
    let past = c.loop-place-test.false in
    c.loop-place.invariant
    ∙ ap (λ places. packing (map (at_place (row_of c.args.row.now)) places))
    (take_all c.loop-place.place-index c.keys-place-items.result.now past ∙ c.keys-place-items.ensures.keys)
