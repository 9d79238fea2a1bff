use Rattle.std.proofs.Common.{◌≡◌, ◌∙◌, [], ap, slice_index_or, sym}
use Rattle.std.specs.Str.{bytes_eq}
use Rattle.std.proofs.lemmas.Option.{get_or_from_slice_get}
use Rattle.having_filter.specs.Kept.{headers}
use Rattle.table_print.proofs.JsonLaws.{any_at, none_more}
use Rattle.table_print.proofs.json_table.is_repeated.Goals as goal

pub returns-then-eq : goal.returns-then-eq
returns-then-eq c =
    let names = headers c.args.query.now in
    let name = slice_index_or names c.args.item [] in
    let earlier = c.header-in-loop-earlier.result.now in
    let same : bytes_eq name earlier ≡ c.eq.result = ap (λ x. bytes_eq x earlier) (get_or_from_slice_get names c.args.item
    c.header.result.now [] c.header.ensures) ∙ sym c.eq.ensures in
    sym (any_at (bytes_eq name) names c.args.item c.loop-earlier.earlier earlier c.header-in-loop-earlier.ensures c.loop-earlier-test.true
    (same ∙ c.if-eq.true))

pub loop-earlier-preserved : goal.loop-earlier-preserved
loop-earlier-preserved c =
    let names = headers c.args.query.now in
    let name = slice_index_or names c.args.item [] in
    let earlier = c.header-in-loop-earlier.result.now in
    let same : bytes_eq name earlier ≡ c.eq.result = ap (λ x. bytes_eq x earlier) (get_or_from_slice_get names c.args.item
    c.header.result.now [] c.header.ensures) ∙ sym c.eq.ensures in
    none_more (bytes_eq name) names c.loop-earlier.earlier earlier c.header-in-loop-earlier.ensures c.loop-earlier.invariant (same
    ∙ c.if-eq.false)
