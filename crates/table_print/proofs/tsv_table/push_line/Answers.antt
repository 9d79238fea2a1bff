use Rattle.std.proofs.Common.{ℕ, List, ◌<◌, ◌∙◌, [], ◌∷◌, ◌++◌, ap, arith, get_or, length, map, sym}
use Rattle.std.proofs.lemmas.List.{get_or-map, length-map}
use Rattle.agg_protocol.specs.Results.{outcome_of}
use Rattle.grouping_model.specs.Aggregates.{Outcome, Plain}
use Rattle.grouping_model.specs.Datum.{Null}
use Rattle.table_print.specs.Tsv.{tsv_cell}
use Rattle.table_print.proofs.AlignedLaws.{longer_line}
use Rattle.table_print.proofs.tsv_table.push_line.Goals as goal

pub loop-item-preserved : goal.loop-item-preserved
loop-item-preserved c =
    let row = map outcome_of c.args.row.now in
    let n = c.loop-item.item in
    let within : n < length row = omega (arith, length-map c.args.row.now outcome_of, c.loop-item-test.true) in
    longer_line tsv_cell (9 ∷ []) row n (Plain Null) _ _ _ within c.loop-item.invariant
    (c.in_ok-push_cell.ensures
    ∙ ap (λ (x : Outcome). c.push_separator.new.out.items ++ tsv_cell x) (sym (get_or-map outcome_of c.args.row.now n _ (Plain Null)
    c.loop-item-test.true))
    ∙ ap (λ (l : List ℕ). l ++ tsv_cell (get_or row n (Plain Null))) c.in_ok-push_separator.ensures)
