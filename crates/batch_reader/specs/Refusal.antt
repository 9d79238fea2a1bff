-- When a batch is refused, and with which error. All of this is our own.
use Rattle.std.specs.Prelude.{◌≡◌, ◌≢◌, ℕ, ◌<◌, ◌≤◌, List, length, take, slice_index_or, []}
use Rattle.grouping_model.specs.declared.limits.TheConstants.{MAX_ROWS}
use Rattle.grouping_model.specs.Datum.{Kind, Row}
use Rattle.packed_rows.specs.Field.{IsLeftmostBad}
use Rattle.batch_reader.specs.Head.{ReadsOrigin, ReadsBatchNumber}
use Rattle.batch_reader.specs.Rows.{ReadsRows}
use Rattle.batch_reader.specs.declared.error.BatchError.{BatchError}
use Rattle.batch_reader.specs.declared.error.BatchError.TheVariants.{NoMemory, BadBatchHead, TooManyRows, RowCount, WrongWidth, BadField}

-- the error of the record in a place, unless memory ran out: a wrong number of fields, and else the leftmost bad field
abbrev pub RecordFault : List Kind → ℕ → List (List ℕ) → BatchError → Type 0
RecordFault kinds place fields NoMemory = Unit {0}
RecordFault kinds place fields (WrongWidth row) = (row ≡ place) × (length fields ≢ length kinds)
RecordFault kinds place fields (BadField row column) = (row ≡ place) × (length fields ≡ length kinds) × IsLeftmostBad kinds fields column
RecordFault kinds place fields error = ⊥

-- the error of records, unless memory ran out: that of the first record that is not a row of the schema
pub record FirstFault (kinds : List Kind) (records : List (List (List ℕ))) (error : BatchError) : Type 0 where
  pub place : ℕ
  pub within : place < length records
  pub before : (rows : List Row) × ReadsRows kinds (take place records) rows
  pub fault : RecordFault kinds place (slice_index_or records place []) error

abbrev pub RowsFault : List Kind → List (List (List ℕ)) → BatchError → Type 0
RowsFault kinds records NoMemory = Unit {0}
RowsFault kinds records error = FirstFault kinds records error

-- the header of a batch is right
pub record HeadReads (origin number : List ℕ) : Type 0 where
  pub origin_value : ℕ
  pub number_value : ℕ
  pub reads_origin : ReadsOrigin origin origin_value
  pub reads_number : ReadsBatchNumber number number_value

-- the error of a batch that its header shows
abbrev pub HeadFault : List ℕ → List ℕ → ℕ → BatchError → Type 0
HeadFault origin number told BadBatchHead = ¬ (HeadReads origin number)
HeadFault origin number told TooManyRows = HeadReads origin number × (MAX_ROWS < told)
HeadFault origin number told error = ⊥

-- the error of a batch, unless memory ran out, in this order
abbrev pub BuildFault : List Kind → List ℕ → List ℕ → ℕ → List (List (List ℕ)) → BatchError → Type 0
BuildFault kinds origin number told records NoMemory = Unit {0}
BuildFault kinds origin number told records BadBatchHead = HeadFault origin number told BadBatchHead
BuildFault kinds origin number told records TooManyRows = HeadFault origin number told TooManyRows
BuildFault kinds origin number told records RowCount = HeadReads origin number × (told ≤ MAX_ROWS) × (length records ≢ told)
BuildFault kinds origin number told records error = HeadReads origin number × (told ≤ MAX_ROWS) × (length records ≡ told)
    × FirstFault kinds records error
