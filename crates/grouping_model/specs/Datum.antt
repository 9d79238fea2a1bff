-- The values of a table, when two of them are the same, and their order.
use Rattle.std.specs.Prelude.{ℕ, ◌≤◌, ◌≢◌, Bool, List, [], ◌∷◌, ℤ, length, slice_index_or, Contains, IsUtf8, FitsSigned, codes}
use Rattle.std.specs.Int.{w64}
use Rattle.std.specs.declared.cmp.Ordering.{Ordering}
use Rattle.std.specs.Ordering.{nat_cmp, int_cmp, bool_cmp, eq_by_cmp}
use Rattle.std.specs.Cmp.Lexicographic.{slice_cmp}
use Rattle.grouping_model.specs.declared.limits.TheConstants.{MAX_TEXT_LEN}

-- a value: null, which is no value at all; a bigint; a boolean; or a text by its bytes
-- (PostgreSQL 17, 8.1.1 Integer Types, 8.6 Boolean Type, 8.3 Character Types)
pub data Datum : Type 0 where
  Null : Datum
  Bigint : ℤ → Datum
  Boolean : Bool → Datum
  Text : List ℕ → Datum

-- the kinds that a column can have: bigint, boolean, text (the same sections; that there are no others is our own)
pub data Kind : Type 0 where
  Bigint_kind Boolean_kind Text_kind : Kind

-- a row, or a key: its values from the first column on (PostgreSQL 17, 5.1 Table Basics)
abbrev pub Row : Type 0
Row = List Datum

-- the value in the column at a place, the first being 0; null beyond the last (own)
abbrev pub at_place : Row → ℕ → Datum
at_place row place = slice_index_or row place Null

-- how an input field or a printed table shows a null (PostgreSQL 17, COPY: the NULL option's default in text format)
abbrev pub null_field : List ℕ
null_field = codes "\\N"

-- a text: UTF-8 without the character 0 (PostgreSQL 17, 8.3); at most 255 bytes, and never the two
-- characters that show a null, so that a printed table is read in one way (own)
abbrev pub IsText : List ℕ → Type 0
IsText bytes = IsUtf8 bytes × (length bytes ≤ MAX_TEXT_LEN) × (¬ (Contains bytes 0)) × (bytes ≢ null_field)

-- a value that a column of this kind can have: null, or one of the kind and in its range. A bigint has 64 bits in two's
-- complement (PostgreSQL 17, 8.1.1)
abbrev pub HasKind : Kind → Datum → Type 0
HasKind kind Null = Unit {0}
HasKind Bigint_kind (Bigint z) = FitsSigned w64 z
HasKind Boolean_kind (Boolean b) = Unit {0}
HasKind Text_kind (Text bytes) = IsText bytes
HasKind kind value = ⊥

-- a row of columns of these kinds: as many values, each of its column's kind
abbrev pub HasKinds : List Kind → Row → Type 0
HasKinds [] [] = Unit {0}
HasKinds (kind ∷ kinds) (value ∷ row) = HasKind kind value × HasKinds kinds row
HasKinds kinds row = ⊥

-- where a value stands among those of other kinds: null is last (PostgreSQL 17, 7.5: nulls sort as if larger than any
-- other value). A column has one kind, so the order of the kinds among themselves does not matter (own)
abbrev pub kind_rank : Datum → ℕ
kind_rank (Bigint z) = 0
kind_rank (Boolean b) = 1
kind_rank (Text bytes) = 2
kind_rank Null = 3

-- the order: numbers by value, false before true, texts by their bytes, null last
-- (PostgreSQL 17, 7.5 Sorting Rows; 24.2.2.1, collation C)
abbrev pub datum_cmp : Datum → Datum → Ordering
datum_cmp (Bigint x) (Bigint y) = int_cmp x y
datum_cmp (Boolean x) (Boolean y) = bool_cmp x y
datum_cmp (Text x) (Text y) = slice_cmp nat_cmp x y
datum_cmp x y = nat_cmp (kind_rank x) (kind_rank y)

-- rows by their first difference (PostgreSQL 17, 9.25.5 Row Constructor Comparison, under the order above)
abbrev pub row_cmp : Row → Row → Ordering
row_cmp = slice_cmp datum_cmp

-- two rows are the same for grouping: place by place both values are null, or both are equal
-- (PostgreSQL 17, 7.3.3: null values are considered equal in this comparison)
abbrev pub same_row : Row → Row → Bool
same_row = eq_by_cmp row_cmp
