use Rattle.std.proofs.Common.{◌==◌, sym, ap, ◌∙◌, arith, map, String, Global}
use Rattle.std.proofs.lemmas.List.{take_all}
use Rattle.std.specs.String.{string_bytes}
use Rattle.query_checks.specs.Checks.{place}
use Rattle.query_checks.specs.Sameness.{with_one, first_of_each}
use Rattle.query_checks.proofs.DistinctLaws.{one_step, maps_joined}
use Rattle.query_checks.proofs.parts.placed_keys.Goals as goal

pub loop-name-preserved : goal.loop-name-preserved
loop-name-preserved c =
    c.in_ok-push_once.ensures
    ∙ (λ i. with_one ◌==◌ (c.loop-name.invariant i) ((c.place.ensures ∙ ap (place c.args.schema.now) c.as_str.ensures.value) i))
    ∙ sym (one_step ◌==◌ (λ (name : String Global). place c.args.schema.now (string_bytes name)) c.args.names.now c.loop-name.name-index
    c.name-item.result (omega arith) c.name-item.is)

pub returns : goal.returns
returns c =
    let placed = λ (name : String Global). place c.args.schema.now (string_bytes name) in
    c.loop-name.invariant
    ∙ ap (λ names. first_of_each ◌==◌ (map placed names)) (take_all c.loop-name.name-index c.args.names.now c.loop-name-test.false)
    ∙ ap (first_of_each ◌==◌) (sym (maps_joined string_bytes (place c.args.schema.now) c.args.names.now))
