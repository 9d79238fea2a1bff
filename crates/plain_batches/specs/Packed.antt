-- The batch file of a plain CSV. All of this is our own.
use Rattle.std.specs.Prelude.{◌≡◌, ℕ, ◌≤◌, false, List, [], ◌∷◌, ◌++◌, map, flat_map, length, codes, decimal, Some, All}
use Rattle.csv.specs.Writing.{default_writer, row_text}
use Rattle.grouping_model.specs.declared.limits.TheConstants.{MAX_INPUT_LEN, MAX_ROWS}
use Rattle.grouping_model.specs.Datum.{Row}
use Rattle.packed_rows.specs.Columns.{Column, kinds, names}
use Rattle.script_io.specs.Records.{Record}
use Rattle.batch_reader.specs.File.{BatchFile, FileHead, read_file}
use Rattle.batch_reader.specs.Rows.{ReadsRows}
use Rattle.plain_batches.specs.Blank.{blank_lines}
use Rattle.plain_batches.specs.Plain.{parts_of, plain_records}
use Rattle.plain_batches.specs.Columns.{AreAmong, ArePlaces, arranged}
use Rattle.plain_batches.specs.declared.layout.Layout.{Layout}

-- what a plain CSV has: its header, the place of each column in it, and its rows, each as wide as the header
pub record Plain : Type 0 where
  pub header : Record
  pub places : List ℕ
  pub rows : List Record

-- a plain CSV has no blank line where that might be a null: where a row is one field, and an empty field is null
abbrev pub HasNoBlank : Layout → (csv : List ℕ) → (header : Record) → Type 0
HasNoBlank layout csv header = length header ≡ 1 → layout.null.now ≡ [] → blank_lines layout.delimiter csv ≡ 0

-- a plain CSV has this: its parts by its layout, each column of the schema by its name, and no other where none may be left out. No null
-- is lost in a blank line
pub record IsPlain (columns : List Column) (layout : Layout) (csv : List ℕ) (plain : Plain) : Type 0 where
  pub parts : parts_of layout.has_header (names columns) (plain_records layout.delimiter csv) ≡ Some (plain.header, plain.rows)
  pub known : layout.skips_columns ≡ false → AreAmong (names columns) plain.header
  pub at : ArePlaces plain.header (names columns) plain.places
  pub blank : HasNoBlank layout csv plain.header
  pub widths : All (λ fields. length fields ≡ length plain.header) plain.rows

-- the records of the batch: the fields of each row in the order of the schema's columns, with null for what stands for it
abbrev pub batch_records : Layout → Plain → List Record
batch_records layout plain = map (arranged layout.null.now plain.places) plain.rows

-- the header of a batch file
abbrev pub head_of : ℕ → ℕ → ℕ → FileHead
head_of origin number rows = record { origin = decimal origin; number = decimal number; told = rows }

abbrev pub head_fields : FileHead → Record
head_fields head = codes "batch" ∷ head.origin ∷ head.number ∷ decimal head.told ∷ []

-- a batch file as text: csv's default line for its header and for each record
abbrev pub file_text : BatchFile → List ℕ
file_text file = row_text default_writer (head_fields file.head) ++ flat_map (row_text default_writer) file.records

-- the batch file of these rows
abbrev pub file_of : Layout → ℕ → ℕ → Plain → BatchFile
file_of layout origin number plain =
    record { head = head_of origin number (length plain.rows); records = batch_records layout plain }

-- a plain CSV was made these bytes: the batch file of its rows
pub record MakesFile (columns : List Column) (layout : Layout) (origin number : ℕ) (csv file : List ℕ) : Type 0 where
  pub plain : Plain
  pub is_plain : IsPlain columns layout csv plain
  pub few : length plain.rows ≤ MAX_ROWS
  pub text : file ≡ file_text (file_of layout origin number plain)

-- a plain CSV was packed as these bytes: read again they have its rows, each of the kinds of the schema's columns
pub record PacksPlain (columns : List Column) (layout : Layout) (origin number : ℕ) (csv file : List ℕ) : Type 0 where
  pub made : MakesFile columns layout origin number csv file
  pub short : length file ≤ MAX_INPUT_LEN
  pub read_again : read_file file ≡ Some (file_of layout origin number made.plain)
  pub values : List Row
  pub reads : ReadsRows (kinds columns) (batch_records layout made.plain) values
