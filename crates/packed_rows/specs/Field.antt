-- Which value an input field stands for. Where no source is named, the rule is our own.
use Rattle.std.specs.Prelude.{◌≡◌, ◌<◌, ◌⊎◌, ℕ, ℤ, Bool, true, false, List, [], ◌∷◌, map, codes, length, take, slice_index_or, FitsSigned}
use Rattle.std.specs.Int.{w64}
use Rattle.std.specs.Char.{to_ascii_lowercase}
use Rattle.std.specs.Str.Parse.{IsNumeral, without_leading_sign, signed_digits_value}
use Rattle.grouping_model.specs.Datum.{Datum, Kind, Row, IsText, null_field, Null, Bigint, Boolean, Text, Bigint_kind, Boolean_kind}
use Rattle.grouping_model.specs.Datum.{Text_kind}

-- a bigint: a plus, a minus or neither, then one or more digits, in the range of 64 bits
-- (PostgreSQL 17, 8.1.1 Integer Types; no white space around it, no underscores, no other base)
abbrev pub IsBigintField : List ℕ → ℤ → Type 0
IsBigintField field z = IsNumeral 10 (without_leading_sign field) × FitsSigned w64 z × (signed_digits_value 10 field ≡ z)

-- the field is this word in any case of letters
abbrev pub SpellsWord : List ℕ → List ℕ → Type 0
SpellsWord word field = map to_ascii_lowercase field ≡ word

-- a boolean: t or true, f or false, in any case of letters
-- (PostgreSQL 17, 8.6 Boolean Type, of whose words these are the ones taken)
abbrev pub IsBooleanField : List ℕ → Bool → Type 0
IsBooleanField field true = SpellsWord (codes "t") field ⊎ SpellsWord (codes "true") field
IsBooleanField field false = SpellsWord (codes "f") field ⊎ SpellsWord (codes "false") field

-- a text is the field itself
abbrev pub IsTextField : List ℕ → List ℕ → Type 0
IsTextField field text = IsText field × (field ≡ text)

-- the field is this value in a column of this kind. Null is written alike in all kinds
abbrev pub Reads : Kind → List ℕ → Datum → Type 0
Reads kind field Null = field ≡ null_field
Reads Bigint_kind field (Bigint z) = IsBigintField field z
Reads Boolean_kind field (Boolean b) = IsBooleanField field b
Reads Text_kind field (Text text) = IsTextField field text
Reads kind field value = ⊥

-- the field is not a value of this kind
abbrev pub IsBadField : Kind → List ℕ → Type 0
IsBadField kind field = (value : Datum) → ¬ (Reads kind field value)

-- field by field, the fields of a row are its values
abbrev pub ReadsRow : List Kind → List (List ℕ) → Row → Type 0
ReadsRow [] [] [] = Unit {0}
ReadsRow (kind ∷ kinds) (field ∷ fields) (value ∷ row) = Reads kind field value × ReadsRow kinds fields row
ReadsRow kinds fields row = ⊥

-- the leftmost bad field: this one is bad, and those before it are not
abbrev pub IsLeftmostBad : List Kind → List (List ℕ) → ℕ → Type 0
IsLeftmostBad kinds fields column = (column < length kinds)
    × IsBadField (slice_index_or kinds column Bigint_kind) (slice_index_or fields column []) × (row : Row)
    × ReadsRow (take column kinds) (take column fields) row
