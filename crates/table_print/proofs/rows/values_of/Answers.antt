use Rattle.std.proofs.Common.{◌∙◌, ap, sym, List, [], ◌∷◌, ◌++◌, map, slice_index_or}
use Rattle.std.proofs.lemmas.List.{map-append}
use Rattle.grouping_model.specs.Aggregates.{Outcome}
use Rattle.agg_protocol.specs.Results.{outcome_of}
use Rattle.table_print.proofs.RowLaws.{one_more}
use Rattle.table_print.proofs.rows.values_of.Goals as goal

pub loop-item-preserved : goal.loop-item-preserved
loop-item-preserved c =
    let x = outcome_of c.value.result in
    ap (map outcome_of) c.in_ok-push.ensures.items
    ∙ map-append outcome_of c.loop-item.values.items (c.value.result ∷ [])
    ∙ ap (λ (row : List Outcome). row ++ x ∷ []) c.loop-item.invariant
    ∙ sym (one_more (slice_index_or c.args.answer.now c.args.row []) c.loop-item.item x c.value.ensures)
