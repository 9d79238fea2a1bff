-- What a batch brings to an aggregation.
use Rattle.std.specs.Prelude.{ℕ, List}
use Rattle.std.proofs.lemmas.List.Elements.{recursion_from_All}
use Rattle.grouping_model.specs.Datum.{HasKinds}
use Rattle.packed_rows.specs.Columns.{kinds}
use Rattle.batch_reader.specs.Rows.{ArePackedRows}
use Rattle.query_checks.specs.Checks.{Checked}
use Rattle.having_filter.specs.Meaning.{meaning}
use Rattle.hash_agg.specs.Inputs.{Packed, IsInput}

-- packed rows of a batch may be aggregated
pub packed_input : (query : Checked) (rows : List (List ℕ)) → ArePackedRows (kinds query.columns) rows
    → IsInput (meaning query) (Packed rows)
packed_input query rows are = (
  are.rows,
  record {
    of_kinds = recursion_from_All (HasKinds (kinds query.columns)) are.rows are.of_kinds;
    packings_are = are.packings_are;
  },
)
