-- The columns of a table, and the text of a schema. Where no source is named, the rule is our own.
use Rattle.std.specs.Prelude.{◌≡◌, ℕ, ◌≤◌, ◌||◌, false, List, [], ◌∷◌, ◌++◌, map, length, codes, string_bytes, Option, Some, None, Ok}
use Rattle.std.specs.Prelude.{position, if◌then◌else◌}
use Rattle.std.specs.List.{AllByRecursion, IsDistinct}
use Rattle.std.specs.Str.{bytes_eq}
use Rattle.std.specs.declared.alloc.Global.{Global}
use Rattle.std.specs.declared.string.String.{String}
use Rattle.grouping_model.specs.declared.limits.TheConstants.{MAX_COLUMNS}
use Rattle.query_tokens.specs.declared.word.Symbol.TheVariants.{Comma}
use Rattle.query_tokens.specs.Words.{Lexeme, Name, Sign, Placed}
use Rattle.query_tokens.specs.Tokens.{tokens_in}
use Rattle.query_tokens.specs.Spelling.{IsName, lexemes_of}
use Rattle.query_tokens.specs.Reserved.{is_reserved}
use Rattle.grouping_model.specs.Datum.{Kind, Bigint_kind, Boolean_kind, Text_kind}
use Rattle.packed_rows.specs.declared.value.ValueKind.{ValueKind}
use Rattle.packed_rows.specs.View.{kind_of}

-- a column: its name and its kind (PostgreSQL 17, 5.1 Table Basics)
pub record Column : Type 0 where
  pub name : List ℕ
  pub kind : Kind

-- the columns that a map from names to kinds has, in its order
abbrev pub columns_of : List (String Global × ValueKind) → List Column
columns_of entries = map (λ e. record { name = string_bytes e.0; kind = kind_of e.1 }) entries

-- the kinds and the names of the columns, from the first on
abbrev pub kinds : List Column → List Kind
kinds columns = map (λ c. c.kind) columns

abbrev pub names : List Column → List (List ℕ)
names columns = map (λ c. c.name) columns

-- the place of the first column of this name
abbrev pub place_of : List ℕ → List Column → Option ℕ
place_of name columns = position (λ c. bytes_eq name c.name) columns

-- a name that a column can have: one of a text, and no reserved word (PostgreSQL 17, 4.1.1 Identifiers and Key Words)
pub record IsColumnName (name : List ℕ) : Type 0 where
  pub legal : IsName name
  pub free : is_reserved name ≡ false

-- the columns of a schema: 1 to 32, no two of one name (PostgreSQL 17, CREATE TABLE; the numbers are our own)
pub record AreColumns (columns : List Column) : Type 0 where
  pub some : 1 ≤ length columns
  pub most : length columns ≤ MAX_COLUMNS
  pub named : AllByRecursion IsColumnName (names columns)
  pub distinct : IsDistinct bytes_eq (names columns)

-- a kind's name, as a schema is printed
abbrev pub kind_text : Kind → List ℕ
kind_text Bigint_kind = codes "bigint"
kind_text Boolean_kind = codes "boolean"
kind_text Text_kind = codes "text"

-- the kind that a word names (PostgreSQL 17, Table 8.1: int8 is bigint, bool is boolean)
unfoldable pub kind_named : List ℕ → Option Kind
kind_named word =
    if bytes_eq word (codes "bigint") || bytes_eq word (codes "int8") then Some Bigint_kind else
    if bytes_eq word (codes "boolean") || bytes_eq word (codes "bool") then Some Boolean_kind else
    if bytes_eq word (codes "text") then Some Text_kind else None

-- a name and the name of a kind describe a column
pub record DescribesColumn (name word : List ℕ) (column : Column) : Type 0 where
  pub named : column.name ≡ name
  pub of_kind : kind_named word ≡ Some column.kind

-- lexemes describe columns, at least one: the name and the kind of each, separated by commas
unfoldable pub Describes : List Lexeme → List Column → Type 0
Describes (Name name ∷ Name word ∷ []) (column ∷ []) = DescribesColumn name word column
Describes (Name name ∷ Name word ∷ Sign Comma ∷ lexemes) (column ∷ columns) = DescribesColumn name word column × Describes lexemes columns
Describes lexemes columns = ⊥

-- lexemes begin with a column's name and the name of its kind, and these follow
pub record BeginsWithColumn (lexemes : List Lexeme) (name : List ℕ) (kind : Kind) (rest : List Lexeme) : Type 0 where
  pub word : List ℕ
  pub begins : lexemes ≡ Name name ∷ Name word ∷ rest
  pub of_kind : kind_named word ≡ Some kind

-- a text is a schema with these columns
pub record IsSchemaText (text : List ℕ) (columns : List Column) : Type 0 where
  pub tokens : List Placed
  pub read : tokens_in text ≡ Ok tokens
  pub described : Describes (lexemes_of tokens) columns
  pub columns_are : AreColumns columns

-- a column's name and the name of its kind
abbrev pub column_text : Column → List ℕ
column_text column = column.name ++ codes " " ++ kind_text column.kind

-- a schema as it is printed: the columns, separated by commas
abbrev pub printed : List Column → List ℕ
printed [] = []
printed (column ∷ []) = column_text column
printed (column ∷ next ∷ columns) = column_text column ++ codes ", " ++ printed (next ∷ columns)
