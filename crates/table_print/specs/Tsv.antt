-- The text of a table whose values stand between tabs: that of PostgreSQL 17, COPY, Text Format, with a line of headers.
use Rattle.std.specs.Prelude.{ℕ, ◌==◌, List, [], ◌∷◌, ◌++◌, flat_map, codes, Option, Some, None, if◌then◌else◌}
use Rattle.std.specs.List.{join_by}
use Rattle.grouping_model.specs.Datum.{Null}
use Rattle.grouping_model.specs.Aggregates.{Outcome, Plain}
use Rattle.table_print.specs.Table.{cell_text}

-- what stands behind a backslash for a backspace, a tab, a line feed, a vertical tab, a form feed, a carriage return and a
-- backslash: b, t, n, v, f, r and a backslash
abbrev pub tsv_letter : ℕ → Option ℕ
tsv_letter byte =
    if byte == 8 then Some 98 else if byte == 9 then Some 116 else if byte == 10 then Some 110 else if byte == 11 then Some 118
    else if byte == 12 then Some 102 else if byte == 13 then Some 114 else if byte == 92 then Some 92 else None

-- a byte: those as a backslash and what stands for them, and any other as it is
abbrev pub behind_backslash : Option ℕ → ℕ → List ℕ
behind_backslash (Some letter) byte = 92 ∷ letter ∷ []
behind_backslash None byte = byte ∷ []

abbrev pub tsv_byte : ℕ → List ℕ
tsv_byte byte = behind_backslash (tsv_letter byte) byte

-- a text as a value
abbrev pub tsv_value : List ℕ → List ℕ
tsv_value text = flat_map tsv_byte text

-- a value: null as \N, and what else there is as its text
abbrev pub tsv_cell : Outcome → List ℕ
tsv_cell (Plain Null) = codes "\\N"
tsv_cell value = tsv_value (cell_text value)

-- the line of the headers, and of a row: values between tabs, and a line feed
abbrev pub tsv_header : List (List ℕ) → List ℕ
tsv_header headers = join_by tsv_value (9 ∷ []) headers ++ codes "\n"

abbrev pub tsv_row : List Outcome → List ℕ
tsv_row row = join_by tsv_cell (9 ∷ []) row ++ codes "\n"

-- a table: its headers, and its rows
abbrev pub tsv_text : List (List ℕ) → List (List Outcome) → List ℕ
tsv_text headers rows = tsv_header headers ++ flat_map tsv_row rows
