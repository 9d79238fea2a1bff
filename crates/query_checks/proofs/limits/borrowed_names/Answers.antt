use Rattle.std.specs.Prelude.{◌++◌, [], ◌∷◌, map, string_bytes}
use Rattle.std.proofs.Common.{sym, ◌∙◌, ap}
use Rattle.std.proofs.lemmas.List.{map-append, map_more, take_all}
use Rattle.packed_rows.specs.View.{texts_of}
use Rattle.query_checks.proofs.limits.borrowed_names.Goals as goal

pub loop-name-preserved : goal.loop-name-preserved
loop-name-preserved c =
    let names = c.args.names.now in let place = c.loop-name.name-index in let name = c.name-item.result in
    ap texts_of c.in_ok-push.ensures.items
    ∙ map-append _ c.loop-name.borrowed.items (c.as_str.result ∷ [])
    ∙ (λ i. c.loop-name.invariant i ++ (c.as_str.ensures.value ∙ ap string_bytes c.name-item.is) i ∷ [])
    ∙ sym (map_more string_bytes names place name c.loop-name-test.true)

pub returns : goal.returns
returns c = c.loop-name.invariant ∙ ap (map string_bytes) (take_all c.loop-name.name-index c.args.names.now c.loop-name-test.false)
