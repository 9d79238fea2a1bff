use Rattle.std.proofs.Common.{◌∙◌, sym, subst}
use Rattle.packed_rows.specs.Columns.{AreColumns}
use Rattle.packed_rows.proofs.ColumnLaws.{cloned_columns}
use Rattle.packed_rows.proofs.schema.Schema.try_clone.Goals as goal

pub invariant_of-result : goal.invariant_of-result
invariant_of-result c = subst AreColumns
    (sym (cloned_columns c.self.inside.columns.entries c.in_ok-columns.columns.entries c.in_ok-columns.ensures.cases)) c.self.invariant

pub returns : goal.returns
returns c = record {
  same = cloned_columns c.self.inside.columns.entries c.in_ok-columns.columns.entries c.in_ok-columns.ensures.cases ∙ c.self.view_is;
  columns = subst AreColumns
      (sym (cloned_columns c.self.inside.columns.entries c.in_ok-columns.columns.entries c.in_ok-columns.ensures.cases)) c.self.invariant;
}
