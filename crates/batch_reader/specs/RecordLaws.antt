-- Laws: fields of a record one by one, and records one by one; nothing here is a definition.
use Rattle.std.specs.Prelude.{◌≡◌, ℕ, ◌≤◌, List, [], ◌∷◌, length}
use Rattle.std.specs.List.{AllByRecursion}
use Rattle.std.proofs.lemmas.List.Elements.{All-from_recursion}
use Rattle.grouping_model.specs.Datum.{Kind, Row, HasKinds}
use Rattle.grouping_model.specs.declared.limits.TheConstants.{MAX_ROWS}
use Rattle.packed_rows.specs.FieldLaws.{read_kinds}
use Rattle.batch_reader.specs.Rows.{ArePackedRows, ReadsRows, packings}

-- the rows of records have the kinds of the columns
rows_of_kinds : (kinds : List Kind) (records : List (List (List ℕ))) (rows : List Row) → ReadsRows kinds records rows
    → AllByRecursion (HasKinds kinds) rows
rows_of_kinds kinds [] [] reads = tt
rows_of_kinds kinds [] (row ∷ rows) reads = absurd reads
rows_of_kinds kinds (fields ∷ records) [] reads = absurd reads
rows_of_kinds kinds (fields ∷ records) (row ∷ rows) (first, reads) = (
  read_kinds kinds fields row first,
  rows_of_kinds kinds records rows
      reads,
)

-- and their packings are the packed rows of a batch, where they are few enough
pub built_rows : (kinds : List Kind) (records : List (List (List ℕ))) (rows : List Row) (packed : List (List ℕ))
    → ReadsRows kinds records rows → packed ≡ packings rows → length packed ≤ MAX_ROWS → ArePackedRows kinds packed
built_rows kinds records rows packed reads is few =
    record {
      few = few;
      rows = rows;
      of_kinds = All-from_recursion (HasKinds kinds) rows (rows_of_kinds kinds records rows reads);
      packings_are = is;
    }
