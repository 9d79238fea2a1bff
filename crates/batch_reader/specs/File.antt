-- Batch files: records in CSV, of which the first is batch,ORIGIN,NUMBER,ROWS. All of this is our own.
use Rattle.std.specs.Prelude.{ℕ, List, [], ◌∷◌, codes, Option, Some, None, option_map, if◌then◌else◌}
use Rattle.std.specs.Str.{bytes_eq}
use Rattle.grouping_model.specs.Datum.{Kind}
use Rattle.script_io.specs.Records as csv
use Rattle.script_io.specs.Records.{Record}
use Rattle.script_io.specs.Digits.{row_count}
use Rattle.batch_reader.specs.Refusal.{BuildFault}
use Rattle.batch_reader.specs.declared.error.BatchError.{BatchError}
use Rattle.batch_reader.specs.declared.error.BatchError.TheVariants.{NoMemory, BadBatchHead}

-- the first record of a batch file: the fields of origin and number, and how many rows it states
pub record FileHead : Type 0 where
  pub origin : List ℕ
  pub number : List ℕ
  pub told : ℕ

-- what four fields say as the header of a batch file
abbrev pub told_by : List ℕ → List ℕ → List ℕ → List ℕ → Option FileHead
told_by word origin number rows =
    if bytes_eq word (codes "batch") then option_map (λ told. record { origin = origin; number = number; told = told }) (row_count rows)
    else None

-- what a record says as the header of a batch file
unfoldable pub file_head : Record → Option FileHead
file_head (word ∷ origin ∷ number ∷ rows ∷ []) = told_by word origin number rows
file_head fields = None

-- a batch file: its header, and the records after it
pub record BatchFile : Type 0 where
  pub head : FileHead
  pub records : List Record

abbrev pub batch_file : List Record → Option BatchFile
batch_file [] = None
batch_file (first ∷ rest) = option_map (λ head. record { head = head; records = rest }) (file_head first)

-- the batch file of some bytes, which are read as csv reads by default
abbrev pub read_file : List ℕ → Option BatchFile
read_file bytes = batch_file (csv.records_of bytes)

-- the error of a batch file, unless memory ran out: its header is bad, or else the error of its batch
abbrev pub FileFault : List Kind → Option BatchFile → BatchError → Type 0
FileFault kinds file NoMemory = Unit {0}
FileFault kinds None BadBatchHead = Unit {0}
FileFault kinds None error = ⊥
FileFault kinds (Some file) error = BuildFault kinds file.head.origin file.head.number file.head.told file.records error
