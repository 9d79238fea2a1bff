use Rattle.std.specs.Prelude.{◌≡◌, [], map}
use Rattle.std.proofs.Common.{◌∙◌, ap, sym, rules, tests}
use Rattle.std.proofs.lemmas.List.{nil_from_length}
use Rattle.query_checks.specs.Checks.{Checked}
use Rattle.having_filter.specs.Meaning.{order_term}
use Rattle.replies.proofs.showing.table.Goals as goal

pub csv_table-requires : goal.csv_table-requires
csv_table-requires c =
    let none : c.order.result.now ≡ [] = nil_from_length c.order.result.now (search (rules, tests)) in
    let terms : c.args.replica.now.query.arrangement.order ≡ [] = ap (λ (q : Checked). q.arrangement.order) (sym c.query.ensures)
    ∙ sym c.order.ensures.order ∙ none in
    λ i. record { order = map order_term (terms i) }

pub tsv_table-requires : goal.tsv_table-requires
tsv_table-requires c =
    let none : c.order.result.now ≡ [] = nil_from_length c.order.result.now (search (rules, tests)) in
    let terms : c.args.replica.now.query.arrangement.order ≡ [] = ap (λ (q : Checked). q.arrangement.order) (sym c.query.ensures)
    ∙ sym c.order.ensures.order ∙ none in
    λ i. record { order = map order_term (terms i) }

pub json_table-requires : goal.json_table-requires
json_table-requires c =
    let none : c.order.result.now ≡ [] = nil_from_length c.order.result.now (search (rules, tests)) in
    let terms : c.args.replica.now.query.arrangement.order ≡ [] = ap (λ (q : Checked). q.arrangement.order) (sym c.query.ensures)
    ∙ sym c.order.ensures.order ∙ none in
    λ i. record { order = map order_term (terms i) }
