-- The text of a table: the header, and a line for each row of an answer. The lines are csv's; how a value shows is our own
-- unless a source is named.
use Rattle.std.specs.Prelude.{ℕ, List, ◌++◌, map, flat_map, codes, true, false}
use Rattle.std.specs.Fmt.{signed_decimal}
use Rattle.csv.specs.Writing.{default_writer, row_text}
use Rattle.grouping_model.specs.Datum.{Null, Bigint, Boolean, Text}
use Rattle.grouping_model.specs.Aggregates.{Outcome, Plain, Numeric}

-- a value as it shows: null as \N (PostgreSQL 17, COPY), truth values as t and f (PostgreSQL 17, 8.6 Boolean Type), numbers
-- in plain decimal
abbrev pub cell_text : Outcome → List ℕ
cell_text (Plain Null) = codes "\\N"
cell_text (Plain (Bigint z)) = signed_decimal z
cell_text (Plain (Boolean true)) = codes "t"
cell_text (Plain (Boolean false)) = codes "f"
cell_text (Plain (Text text)) = text
cell_text (Numeric z) = signed_decimal z

-- a line: fields between commas, quoted where they must be, and a line feed (RFC 4180; csv's default writer)
abbrev pub line_text : List (List ℕ) → List ℕ
line_text fields = row_text default_writer fields

-- the line of a row
abbrev pub row_line : List Outcome → List ℕ
row_line row = line_text (map cell_text row)

-- a table: its header, and its rows
abbrev pub table_text : List (List ℕ) → List (List Outcome) → List ℕ
table_text headers rows = line_text headers ++ flat_map row_line rows
