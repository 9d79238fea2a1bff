-- When a row or a key is refused. All of this is our own.
use Rattle.std.specs.Prelude.{◌≡◌, ◌≢◌, ℕ, List, length, IsTrue, ◌⊎◌}
use Rattle.std.specs.List.{list_any}
use Rattle.std.specs.Str.{bytes_eq}
use Rattle.grouping_model.specs.declared.limits.TheConstants.{MAX_COLUMNS}
use Rattle.grouping_model.specs.Datum.{Kind}
use Rattle.packed_rows.specs.declared.error.RowError.{RowError}
use Rattle.packed_rows.specs.declared.error.RowError.TheVariants.{NoMemory, BadSchema, BadField, WrongWidth, BadPacked}
use Rattle.packed_rows.specs.Columns.{Column, names, AreColumns, Describes, IsSchemaText}
use Rattle.query_tokens.specs.Words.{Lexeme}
use Rattle.query_tokens.specs.Reserved.{is_reserved}
use Rattle.packed_rows.specs.Field.{IsLeftmostBad}
use Rattle.packed_rows.specs.Packing.{IsNoPacking}

-- the error of an unpacking, unless memory ran out: the bytes are not the packing of a row of these kinds
abbrev pub UnpackFault : List Kind → List ℕ → RowError → Type 0
UnpackFault kinds bytes NoMemory = Unit {0}
UnpackFault kinds bytes BadPacked = IsNoPacking kinds bytes
UnpackFault kinds bytes error = ⊥

-- the error of a packing, unless memory ran out: a wrong number of fields, and else the leftmost bad field
abbrev pub PackFault : List Kind → List (List ℕ) → RowError → Type 0
PackFault kinds fields NoMemory = Unit {0}
PackFault kinds fields WrongWidth = length fields ≢ length kinds
PackFault kinds fields (BadField column) = (length fields ≡ length kinds) × IsLeftmostBad kinds fields column
PackFault kinds fields error = ⊥

-- the error of a new column, unless memory ran out: there are 32, or one of its name, or the name is a reserved word
abbrev pub AddFault : List ℕ → List Column → RowError → Type 0
AddFault name columns NoMemory = Unit {0}
AddFault name columns BadSchema = (length columns ≡ MAX_COLUMNS) ⊎ IsTrue (list_any (bytes_eq name) (names columns))
    ⊎ IsTrue (is_reserved name)
AddFault name columns error = ⊥

-- the error of a schema's text, unless memory ran out: the text is not a schema
abbrev pub ParseFault : List ℕ → RowError → Type 0
ParseFault text NoMemory = Unit {0}
ParseFault text BadSchema = (columns : List Column) → ¬ (IsSchemaText text columns)
ParseFault text error = ⊥

-- the error of a schema's tokens, unless memory ran out: they are not the columns of a schema
abbrev pub ReadFault : List Lexeme → RowError → Type 0
ReadFault lexemes NoMemory = Unit {0}
ReadFault lexemes BadSchema = (columns : List Column) → Describes lexemes columns → ¬ (AreColumns columns)
ReadFault lexemes error = ⊥
