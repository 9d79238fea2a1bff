-- The text of an aligned table: the header, a rule, and a line for each row, whose columns stand below one another. Unless a
-- source is named, all of this is our own.
use Rattle.std.specs.Prelude.{ℕ, ◌-◌, ◌/◌, ◌%◌, ◌==◌, ◌&&◌, ◌||◌, Bool, List, [], ◌∷◌, ◌++◌, map, flat_map, fold, max, replicate, codes}
use Rattle.std.specs.Prelude.{nat_lt, Option, Some, slice_index_or, if◌then◌else◌}
use Rattle.std.specs.Char.{digit_char}
use Rattle.std.specs.Fmt.{char_count}
use Rattle.std.specs.List.{enumerate_from, join_by, zip}
use Rattle.grouping_model.specs.Datum.{Kind, Bigint_kind}
use Rattle.grouping_model.specs.Aggregates.{Outcome}
use Rattle.packed_rows.specs.Columns.{kinds}
use Rattle.query_checks.specs.Checks.{kind_of_form, Checked}
use Rattle.table_print.specs.Table.{cell_text}
use Rattle.table_print.specs.declared.aligned_table.Column.{Column}
use Rattle.table_print.specs.declared.aligned_table.Side.{Side}
use Rattle.table_print.specs.declared.aligned_table.Side.TheVariants.{Left, Right}

-- the characters 1 to 31 and 127: of the control characters of ASCII (RFC 20) all but 0, which no text has
abbrev pub is_control : ℕ → Bool
is_control byte = (nat_lt 0 byte && nat_lt byte 32) || (byte == 127)

-- a byte of a cell: a control character as \x and two hexadecimal digits. In UTF-8 (RFC 3629) the bytes of characters past
-- ASCII are 128 and more, so they stay
abbrev pub shown_byte : ℕ → List ℕ
shown_byte byte = if is_control byte then codes "\\x" ++ digit_char (byte / 16) ∷ digit_char (byte % 16) ∷ [] else byte ∷ []

-- a cell as it stands in a table
abbrev pub shown : List ℕ → List ℕ
shown text = flat_map shown_byte text

-- the cells of a line
abbrev pub header_cells : List (List ℕ) → List (List ℕ)
header_cells headers = map shown headers

abbrev pub row_cells : List Outcome → List (List ℕ)
row_cells row = map (λ value. shown (cell_text value)) row

-- how many characters (Unicode scalar values) the longest of these cells has
abbrev pub longest : List (List ℕ) → ℕ
longest cells = fold (λ width cell. max width (char_count cell)) 0 cells

-- the cells of a column, given all lines
abbrev pub column_cells : List (List (List ℕ)) → ℕ → List (List ℕ)
column_cells lines place = map (λ line. slice_index_or line place []) lines

-- numbers stand to the right of their column, and what else there is to the left
abbrev pub side_of : Option Kind → Side
side_of (Some Bigint_kind) = Right
side_of kind = Left

-- the sides of a query's items, by their kinds
abbrev pub sides : Checked → List Side
sides q = map (λ item. side_of (kind_of_form (kinds q.columns) item.0)) q.written.items

-- the columns of a table: each is as wide as its longest cell
abbrev pub columns_of : List Side → List (List (List ℕ)) → List Column
columns_of sides lines = map (λ side. record { side = side.1; width = longest (column_cells lines side.0) }) (enumerate_from 0 sides)

-- a cell and its spaces
abbrev pub on_side : Side → List ℕ → List ℕ → List ℕ
on_side Left cell spaces = cell ++ spaces
on_side Right cell spaces = spaces ++ cell

-- a cell as wide as its column
abbrev pub padded : Column → List ℕ → List ℕ
padded column cell = on_side column.side cell (replicate (column.width - char_count cell) 32)

-- a line of cells
abbrev pub aligned_line : List Column → List (List ℕ) → List ℕ
aligned_line columns cells = join_by (λ pair. padded pair.0 pair.1) (codes " | ") (zip columns cells) ++ codes "\n"

-- the rule below the header
abbrev pub rule_line : List Column → List ℕ
rule_line columns = join_by (λ column. replicate column.width 45) (codes "-+-") columns ++ codes "\n"

-- a table of these columns
abbrev pub table_of : List Column → List (List ℕ) → List (List (List ℕ)) → List ℕ
table_of columns header rows = aligned_line columns header ++ rule_line columns ++ flat_map (aligned_line columns) rows

-- the table of an answer, given its headers and the sides of its columns
abbrev pub aligned_text : List Side → List (List ℕ) → List (List Outcome) → List ℕ
aligned_text sides headers answer =
    let header = header_cells headers in
    let rows = map row_cells answer in
    table_of (columns_of sides (header ∷ rows)) header rows
