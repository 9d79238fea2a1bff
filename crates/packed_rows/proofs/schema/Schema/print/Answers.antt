use Rattle.std.specs.Prelude.{◌≡◌, ◌++◌, ◌<◌, ◌≤◌, ℕ, List, string_bytes, take, codes, length}
use Rattle.std.proofs.Common.{◌∙◌, ap, sym, subst, arith, append-nil}
use Rattle.packed_rows.specs.Columns.{printed, column_text, IsSchemaText}
use Rattle.packed_rows.specs.Lemmas.PrintedColumns.{printed_again}
use Rattle.std.proofs.lemmas.List.{take_all}
use Rattle.packed_rows.specs.View.{kind_of}
use Rattle.packed_rows.proofs.ColumnLaws.{printed_more, first_separator, later_separator, separator}
use Rattle.packed_rows.proofs.schema.Schema.print.Goals as goal
use Rattle.packed_rows.proofs.schema.Schema.print.Goals.{then-column-gt0+in_ok-push_str, else-column-gt0}

pub loop-column-preserved : goal.loop-column-preserved
loop-column-preserved c =
    let columns = c.args.self.now in
    let i = c.loop-column.column in
    let front = printed (take i columns) in
    let within : i < length columns = subst (λ (n : ℕ). i < n) c.width-column-end.ensures.width c.loop-column-test.true in
    let more = printed_more columns i c.name.result.now _ within c.name.ensures c.kind.ensures in
    let before : string_bytes c.if-column-gt0.text ≡ front ++ separator (take i columns) =
    elim c.if-column-gt0.branch [
      | then-column-gt0+in_ok-push_str w ↦ ap string_bytes w.text-is ∙ w.in_ok-push_str.ensures.bytes
          ∙ ap (λ (t : List ℕ). t ++ codes ", ") c.loop-column.invariant
          ∙ ap (λ (t : List ℕ). front ++ t) (sym (later_separator columns i w.if-column-gt0.true within))
      | else-column-gt0 w ↦ ap string_bytes w.text-is ∙ c.loop-column.invariant ∙ sym (append-nil front)
          ∙ ap (λ (t : List ℕ). front ++ t) (sym (first_separator columns i (omega (arith, w.if-column-gt0.false))))
    ] in
    c.in_ok-push_column.ensures ∙ ap (λ (t : List ℕ). t ++ column_text (record { name = c.name.result.now; kind = kind_of c.kind.result }))
    before ∙ sym more

pub returns-clause-read_again : goal.returns-clause-read_again
returns-clause-read_again c =
    let columns = c.args.self.now in
    let width = c.width-column-end.ensures.width in
    let long : length columns ≤ c.loop-column.column = omega (arith, width, c.loop-column-test.false) in
    subst (λ (text : List ℕ). IsSchemaText text columns)
    (sym (c.loop-column.invariant ∙ ap printed (take_all c.loop-column.column columns long)))
    (printed_again columns c.width-column-end.ensures.columns)
