-- Why a plain CSV is refused, step by step.
use Rattle.std.proofs.Common.{◌≡◌, ℕ, Bool, List, Some, ap, length, subst, sym, ◌∙◌}
use Rattle.std.specs.Prelude.{Result, Ok, Err, IfErr}
use Rattle.packed_rows.specs.Columns.{Column, names}
use Rattle.script_io.specs.Records.{Record}
use Rattle.plain_batches.specs.Plain.{parts_of, plain_records}
use Rattle.plain_batches.specs.Columns.{ArePlaces}
use Rattle.plain_batches.specs.Packed.{HasNoBlank}
use Rattle.plain_batches.specs.Refusal.{HasNoOther, HasParts, HeaderFault, IsRightHeader, MisplacedFault, PlainFault, WidthFault}
use Rattle.plain_batches.specs.declared.layout.Layout.{Layout}
use Rattle.plain_batches.specs.declared.error.PackError.{PackError}
use Rattle.plain_batches.specs.declared.error.PackError.TheVariants.{NoMemory, UnknownColumn, MissingColumn, RepeatedColumn}
use Rattle.plain_batches.specs.declared.error.PackError.TheVariants.{WrongWidth, TooManyRows}

-- a plain CSV has these parts
pub has_parts : (columns : List Column) (layout : Layout) (csv : List ℕ) (named header : Record) (all rows : List Record)
    → named ≡ names columns → all ≡ plain_records layout.delimiter csv
    → parts_of layout.has_header named all ≡ Some (header, rows) → HasParts columns layout csv header rows
has_parts columns layout csv named header all rows names_are is parts =
    ap (λ (n : Record). parts_of layout.has_header n (plain_records layout.delimiter csv)) (sym names_are)
    ∙ ap (λ (a : List Record). parts_of layout.has_header named a) (sym is) ∙ parts

pub header_refused : (columns : List Column) (layout : Layout) (csv : List ℕ) (header : Record) (rows : List Record) (error : PackError)
    → HasParts columns layout csv header rows → HeaderFault layout.skips_columns (names columns) header error
    → PlainFault columns layout csv error
header_refused columns layout csv header rows NoMemory parts fault = tt
header_refused columns layout csv header rows (UnknownColumn place) parts fault = (header, rows, parts, fault)
header_refused columns layout csv header rows (MissingColumn column) parts fault = (header, rows, parts, fault)
header_refused columns layout csv header rows (RepeatedColumn column) parts fault = (header, rows, parts, fault)
header_refused columns layout csv header rows error parts fault = absurd fault.1

-- a header with no name too many is refused by the places of its names
pub misplaced_header : {T : Type 0} (skips : Bool) (names header : Record) (result : Result T PackError) → HasNoOther skips names header
    → IfErr result (MisplacedFault names header) → IfErr result (HeaderFault skips names header)
misplaced_header skips names header (Ok places) known fault = tt
misplaced_header skips names header (Err NoMemory) known fault = tt
misplaced_header skips names header (Err (MissingColumn column)) known fault = (known, fault)
misplaced_header skips names header (Err (RepeatedColumn column)) known fault = (known, fault)
misplaced_header skips names header (Err error) known fault = absurd fault

pub widths_refused : (columns : List Column) (layout : Layout) (csv : List ℕ) (header : Record) (rows : List Record) (error : PackError)
    → HasParts columns layout csv header rows → IsRightHeader layout.skips_columns (names columns) header → HasNoBlank layout csv header
    → WidthFault (length header) rows error → PlainFault columns layout csv error
widths_refused columns layout csv header rows NoMemory parts right blank fault = tt
widths_refused columns layout csv header rows (WrongWidth row) parts right blank fault = (header, rows, parts, right, blank, fault)
widths_refused columns layout csv header rows TooManyRows parts right blank fault = (header, rows, parts, right, blank, fault)
widths_refused columns layout csv header rows error parts right blank fault = absurd fault

-- a header is right by the names of its columns
pub right_header : (layout : Layout) (columns : List Column) (named header : Record) (places : List ℕ) → named ≡ names columns
    → HasNoOther layout.skips_columns named header → ArePlaces header named places
    → IsRightHeader layout.skips_columns (names columns) header
right_header layout columns named header places names_are known at = record {
  known = subst (λ (n : Record). HasNoOther layout.skips_columns n header) names_are known;
  places = places;
  at = subst (λ (n : Record). ArePlaces header n places) names_are at;
}
