-- The rows of records, and their packings. All of this is our own.
use Rattle.std.specs.Prelude.{◌≡◌, ℕ, ◌≤◌, List, [], ◌∷◌, map, length, All}
use Rattle.csv.specs.Records.{fields_of}
use Rattle.csv.specs.declared.record.ByteRecord.{ByteRecord}
use Rattle.grouping_model.specs.declared.limits.TheConstants.{MAX_ROWS}
use Rattle.grouping_model.specs.Datum.{Kind, Row, HasKinds}
use Rattle.packed_rows.specs.Field.{ReadsRow}
use Rattle.packed_rows.specs.Packing.{packing}

-- the fields of each record
abbrev pub records_of : List ByteRecord → List (List (List ℕ))
records_of records = map fields_of records

-- the packing of each row
abbrev pub packings : List Row → List (List ℕ)
packings rows = map packing rows

-- record by record, the fields are these rows
abbrev pub ReadsRows : List Kind → List (List (List ℕ)) → List Row → Type 0
ReadsRows kinds [] [] = Unit {0}
ReadsRows kinds (fields ∷ records) (row ∷ rows) = ReadsRow kinds fields row × ReadsRows kinds records rows
ReadsRows kinds records rows = ⊥

-- the packed rows of a batch: at most as many as it may have, each the packing of a row of columns of these kinds
pub record ArePackedRows (kinds : List Kind) (packed : List (List ℕ)) : Type 0 where
  pub few : length packed ≤ MAX_ROWS
  pub rows : List Row
  pub of_kinds : All (HasKinds kinds) rows
  pub packings_are : packed ≡ packings rows
