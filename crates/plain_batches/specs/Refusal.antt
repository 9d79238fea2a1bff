-- When a plain CSV is refused, and with which error. All of this is our own.
use Rattle.std.specs.Prelude.{◌≡◌, ◌≢◌, ℕ, ◌<◌, ◌≤◌, Bool, true, false, List, [], take, length, slice_index_or, Some, All}
use Rattle.grouping_model.specs.declared.limits.TheConstants.{MAX_INPUT_LEN, MAX_ROWS}
use Rattle.packed_rows.specs.Columns.{Column, kinds, names}
use Rattle.script_io.specs.Records.{Record}
use Rattle.batch_reader.specs.Refusal.{FirstFault}
use Rattle.batch_reader.specs.declared.error.BatchError.TheVariants as batch
use Rattle.plain_batches.specs.Blank.{blank_lines}
use Rattle.plain_batches.specs.Plain.{parts_of, plain_records}
use Rattle.plain_batches.specs.Columns.{AreAmong, ArePlaces, IsNamed, IsNowhere}
use Rattle.plain_batches.specs.Packed.{HasNoBlank, MakesFile, batch_records}
use Rattle.plain_batches.specs.declared.layout.Layout.{Layout}
use Rattle.plain_batches.specs.declared.error.PackError.{PackError}
use Rattle.plain_batches.specs.declared.error.PackError.TheVariants.{NoMemory, NoHeader, UnknownColumn, MissingColumn, RepeatedColumn}
use Rattle.plain_batches.specs.declared.error.PackError.TheVariants.{BlankLine, WrongWidth, TooManyRows, TooLong, BadField}

-- the first name of a header that is none of these
pub record IsFirstUnknown (names header : Record) (place : ℕ) : Type 0 where
  pub within : place < length header
  pub unknown : IsNowhere names (slice_index_or header place [])
  pub before : (earlier : ℕ) → earlier < place → ¬ (IsNowhere names (slice_index_or header earlier []))

-- the names before one are each in one place of the header
pub record IsFirstMisplaced (names header : Record) (column : ℕ) : Type 0 where
  pub within : column < length names
  pub places : List ℕ
  pub before : ArePlaces header (take column names) places

-- a header has a name in two places
pub record IsTwice (header : Record) (name : List ℕ) : Type 0 where
  pub first : ℕ
  pub second : ℕ
  pub order : first < second
  pub within : second < length header
  pub named : IsNamed header name first
  pub again : IsNamed header name second

-- why a column with this name has no place of its own in a header
abbrev pub PlaceFault : Record → List ℕ → ℕ → PackError → Type 0
PlaceFault header name column (MissingColumn at) = (at ≡ column) × IsNowhere header name
PlaceFault header name column (RepeatedColumn at) = (at ≡ column) × IsTwice header name
PlaceFault header name column error = ⊥

-- the error of the first name that has no place of its own, unless memory ran out
abbrev pub MisplacedFault : Record → Record → PackError → Type 0
MisplacedFault names header NoMemory = Unit {0}
MisplacedFault names header (MissingColumn column) = IsFirstMisplaced names header column
    × IsNowhere header (slice_index_or names column [])
MisplacedFault names header (RepeatedColumn column) = IsFirstMisplaced names header column
    × IsTwice header (slice_index_or names column [])
MisplacedFault names header error = ⊥

-- a header has no name too many, where none may be left out
abbrev pub HasNoOther : Bool → Record → Record → Type 0
HasNoOther skips names header = skips ≡ false → AreAmong names header

-- the error of a header, unless memory ran out: a name too many, where none may be left out, or else one that has no place of its own
abbrev pub HeaderFault : Bool → Record → Record → PackError → Type 0
HeaderFault skips names header NoMemory = Unit {0}
HeaderFault skips names header (UnknownColumn place) = (skips ≡ false) × IsFirstUnknown names header place
HeaderFault skips names header error = HasNoOther skips names header × MisplacedFault names header error

-- a header is right: it has no name too many, and each column a place of its own
pub record IsRightHeader (skips : Bool) (names header : Record) : Type 0 where
  pub known : HasNoOther skips names header
  pub places : List ℕ
  pub at : ArePlaces header names places

-- the error of rows by their number and widths, unless memory ran out. It is that of the first row, of those that a batch may have, which
-- is wider or narrower than the width given. Else it is that there are more
abbrev pub WidthFault : ℕ → List Record → PackError → Type 0
WidthFault width rows NoMemory = Unit {0}
WidthFault width rows (WrongWidth row) = (row < MAX_ROWS) × (row < length rows) × (length (slice_index_or rows row []) ≢ width)
    × All (λ fields. length fields ≡ width) (take row rows)
WidthFault width rows TooManyRows = (MAX_ROWS < length rows) × All (λ fields. length fields ≡ width) (take MAX_ROWS rows)
WidthFault width rows error = ⊥

-- a plain CSV has this header and these rows
abbrev pub HasParts : List Column → Layout → List ℕ → Record → List Record → Type 0
HasParts columns layout csv header rows = parts_of layout.has_header (names columns) (plain_records layout.delimiter csv)
    ≡ Some (header, rows)

-- the error of its parts, unless memory ran out: it has no header
abbrev pub PartsFault : Bool → List Record → PackError → Type 0
PartsFault has_header records NoMemory = Unit {0}
PartsFault has_header records NoHeader = (has_header ≡ true) × (records ≡ [])
PartsFault has_header records error = ⊥

-- its header is refused
abbrev pub RefusesHeader : List Column → Layout → List ℕ → PackError → Type 0
RefusesHeader columns layout csv error = (header : Record) × (rows : List Record) × HasParts columns layout csv header rows
    × HeaderFault layout.skips_columns (names columns) header error

-- its header is right and one name, and a blank line may be a null
abbrev pub RefusesBlank : List Column → Layout → List ℕ → Type 0
RefusesBlank columns layout csv = (header : Record) × (rows : List Record) × HasParts columns layout csv header rows
    × IsRightHeader layout.skips_columns (names columns) header × (length header ≡ 1) × (layout.null.now ≡ [])
    × (blank_lines layout.delimiter csv ≢ 0)

-- its header is right, it has no such blank line, and its rows are refused by their number and widths
abbrev pub RefusesWidths : List Column → Layout → List ℕ → PackError → Type 0
RefusesWidths columns layout csv error = (header : Record) × (rows : List Record) × HasParts columns layout csv header rows
    × IsRightHeader layout.skips_columns (names columns) header × HasNoBlank layout csv header × WidthFault (length header) rows error

-- the error of a plain CSV before its batch file is made, unless memory ran out, in this order
abbrev pub PlainFault : List Column → Layout → List ℕ → PackError → Type 0
PlainFault columns layout csv NoMemory = Unit {0}
PlainFault columns layout csv NoHeader = PartsFault layout.has_header (plain_records layout.delimiter csv) NoHeader
PlainFault columns layout csv (UnknownColumn place) = RefusesHeader columns layout csv (UnknownColumn place)
PlainFault columns layout csv (MissingColumn column) = RefusesHeader columns layout csv (MissingColumn column)
PlainFault columns layout csv (RepeatedColumn column) = RefusesHeader columns layout csv (RepeatedColumn column)
PlainFault columns layout csv BlankLine = RefusesBlank columns layout csv
PlainFault columns layout csv (WrongWidth row) = RefusesWidths columns layout csv (WrongWidth row)
PlainFault columns layout csv TooManyRows = RefusesWidths columns layout csv TooManyRows
PlainFault columns layout csv error = ⊥

-- the error of a plain CSV, unless memory ran out, in this order. Of one that was made a batch file: this is longer than what is read, or
-- else that of its first field that is not a value of its column
abbrev pub PackFault : List Column → Layout → ℕ → ℕ → List ℕ → PackError → Type 0
PackFault columns layout origin number csv TooLong = (file : List ℕ) × MakesFile columns layout origin number csv file
    × (MAX_INPUT_LEN < length file)
PackFault columns layout origin number csv (BadField row column) = (file : List ℕ)
    × (made : MakesFile columns layout origin number csv file)
    × (length file ≤ MAX_INPUT_LEN) × FirstFault (kinds columns) (batch_records layout made.plain) (batch.BadField row column)
PackFault columns layout origin number csv error = PlainFault columns layout csv error
