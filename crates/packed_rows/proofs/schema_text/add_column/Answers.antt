use Rattle.std.proofs.Common.{◌∙◌, sym, inl, inr}
use Rattle.packed_rows.proofs.ColumnLaws.{new_column, named_column, distinct_names, no_fault, columns_long}
use Rattle.packed_rows.proofs.schema_text.add_column.Goals as goal
use Rattle.packed_rows.proofs.schema_text.add_column.Goals.{then-len-eq-MAX_COLUMNS-via-then-len-eq-MAX_COLUMNS}
use Rattle.packed_rows.proofs.schema_text.add_column.Goals.{then-len-eq-MAX_COLUMNS-via-else-len-eq-MAX_COLUMNS+then-contains_key}
use Rattle.packed_rows.proofs.schema_text.add_column.Goals.{}
use Rattle.packed_rows.proofs.schema_text.add_column.Goals.{then-len-eq-MAX_COLUMNS-via-else-len-eq-MAX_COLUMNS+else-contains_key+then-is_reserved}

pub returns-then-len-eq-MAX_COLUMNS-clause-refused : goal.returns-then-len-eq-MAX_COLUMNS-clause-refused
returns-then-len-eq-MAX_COLUMNS-clause-refused c =
    elim c.then-len-eq-MAX_COLUMNS.branch [
      | then-len-eq-MAX_COLUMNS-via-then-len-eq-MAX_COLUMNS w ↦ inl (columns_long c.args.columns.now.entries ∙ sym c.len.ensures.len
          ∙ w.if-len-eq-MAX_COLUMNS.true)
      | then-len-eq-MAX_COLUMNS-via-else-len-eq-MAX_COLUMNS+then-contains_key w ↦ inr
          (inl (sym (named_column c.args.name.now c.args.columns.now.entries) ∙ sym w.contains_key.ensures ∙ w.if-contains_key.true))
      | then-len-eq-MAX_COLUMNS-via-else-len-eq-MAX_COLUMNS+else-contains_key+then-is_reserved w ↦ inr
          (inr (sym w.is_reserved.ensures ∙ w.if-is_reserved.true))
    ]

pub returns-clause-added : goal.returns-clause-added
returns-clause-added c =
    new_column c.args.columns.now c.insert.new.self c.args.name.now c.in_ok-from_str.field-0 c.args.kind c.in_ok-from_str.ensures.ok
    (sym c.contains_key.ensures ∙ c.if-contains_key.false) c.in_ok-insert.ensures.entries

pub returns-clause-right : goal.returns-clause-right
returns-clause-right c =
    no_fault c.args.columns.now.entries c.args.name.now (λ e. c.if-len-eq-MAX_COLUMNS.false (c.len.ensures.len ∙ e))
    (sym c.contains_key.ensures ∙ c.if-contains_key.false) (sym c.is_reserved.ensures ∙ c.if-is_reserved.false)

pub returns-clause-distinct : goal.returns-clause-distinct
returns-clause-distinct c = distinct_names c.insert.new.self.entries c.insert.ensures.unique
