use Rattle.std.proofs.Common.{ℕ, List, ◌∙◌, [], ◌∷◌, ◌++◌, ap, sym}
use Rattle.std.proofs.lemmas.Option.{slice_get-map}
use Rattle.csv.specs.Records.{fields_of}
use Rattle.packed_rows.specs.Columns.{names}
use Rattle.plain_batches.proofs.PlainLaws.{one_more}
use Rattle.plain_batches.proofs.columns.names_of.Goals as goal

pub loop-column-preserved : goal.loop-column-preserved
loop-column-preserved c =
    let columns = c.args.schema.now in
    let n = c.loop-column.column in
    let at = slice_get-map (λ c. c.name) columns n ∙ c.name.ensures in (
      c.in_ok-push_field.ensures.fields
          ∙ ap (λ (partial : List ℕ). fields_of c.loop-column.all ++ (partial ++ c.as_bytes.result.now) ∷ []) c.loop-column.invariant.1
          ∙ ap (λ (bytes : List ℕ). fields_of c.loop-column.all ++ bytes ∷ []) c.as_bytes.ensures.value
          ∙ ap (λ (fields : List (List ℕ)). fields ++ c.name.result.now ∷ []) c.loop-column.invariant.0
          ∙ sym (one_more (names columns) n c.name.result.now at),
      c.in_ok-push_field.ensures.partial,
    )
