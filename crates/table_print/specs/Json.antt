-- The text of an answer as objects of JSON (RFC 8259), one on each line.
use Rattle.std.specs.Prelude.{ℕ, ◌+◌, ◌/◌, ◌%◌, ◌==◌, List, [], ◌∷◌, ◌++◌, map, flat_map, codes, decimal, nat_lt, Option, Some, None}
use Rattle.std.specs.Prelude.{if◌then◌else◌, take, true, false}
use Rattle.std.specs.Char.{digit_char}
use Rattle.std.specs.List.{enumerate_from, join_by, list_any, zip}
use Rattle.std.specs.Str.{bytes_eq}
use Rattle.grouping_model.specs.Datum.{Null, Boolean, Text}
use Rattle.grouping_model.specs.Aggregates.{Outcome, Plain}
use Rattle.table_print.specs.Table.{cell_text}

-- what stands behind a backslash for a backspace, a tab, a line feed, a form feed, a carriage return, a quotation mark and a
-- backslash: b, t, n, f, r, the mark and a backslash (RFC 8259, 7 Strings)
abbrev pub json_letter : ℕ → Option ℕ
json_letter byte =
    if byte == 8 then Some 98 else if byte == 9 then Some 116 else if byte == 10 then Some 110 else if byte == 12 then Some 102
    else if byte == 13 then Some 114 else if byte == 34 then Some 34 else if byte == 92 then Some 92 else None

-- a byte of no such character: the control characters up to 31 as \u and four hexadecimal digits, and any other as it is
-- (RFC 8259, 7 Strings)
abbrev pub plain_byte : ℕ → List ℕ
plain_byte byte = if nat_lt byte 32 then codes "\\u00" ++ digit_char (byte / 16) ∷ digit_char (byte % 16) ∷ [] else byte ∷ []

abbrev pub escaped_as : Option ℕ → ℕ → List ℕ
escaped_as (Some letter) byte = 92 ∷ letter ∷ []
escaped_as None byte = plain_byte byte

abbrev pub json_byte : ℕ → List ℕ
json_byte byte = escaped_as (json_letter byte) byte

-- a string: its characters between quotation marks (RFC 8259, 7 Strings)
abbrev pub json_string : List ℕ → List ℕ
json_string text = 34 ∷ flat_map json_byte text ++ 34 ∷ []

-- a value: null, true and false as these words; a text as a string; and numbers in plain decimal, of whatever size (RFC 8259, 3 Values, 6
-- Numbers)
abbrev pub json_value : Outcome → List ℕ
json_value (Plain Null) = codes "null"
json_value (Plain (Boolean true)) = codes "true"
json_value (Plain (Boolean false)) = codes "false"
json_value (Plain (Text text)) = json_string text
json_value number = cell_text number

-- the name of a column in an object: its header, behind which, where an earlier column has the same, a dot and its place stand,
-- the first being 1. No header of a query has a dot, so no object has a name twice (own; `json_names_differ`)
abbrev pub name_of : List (List ℕ) → ℕ × List ℕ → List ℕ
name_of headers column =
    column.1 ++ (if list_any (bytes_eq column.1) (take column.0 headers) then codes "." ++ decimal (column.0 + 1) else [])

-- the names in an object, and as strings
abbrev pub member_names : List (List ℕ) → List (List ℕ)
member_names headers = map (name_of headers) (enumerate_from 0 headers)

abbrev pub json_names : List (List ℕ) → List (List ℕ)
json_names headers = map (λ column. json_string (name_of headers column)) (enumerate_from 0 headers)

-- a member of an object: a name and a value (RFC 8259, 4 Objects)
abbrev pub json_member : List ℕ × Outcome → List ℕ
json_member member = member.0 ++ codes ":" ++ json_value member.1

-- a row: an object of these names, and a line feed
abbrev pub json_row : List (List ℕ) → List Outcome → List ℕ
json_row names row = codes "{" ++ join_by json_member (codes ",") (zip names row) ++ codes "}\n"

-- the rows of an answer
abbrev pub json_text : List (List ℕ) → List (List Outcome) → List ℕ
json_text headers rows = flat_map (json_row (json_names headers)) rows
