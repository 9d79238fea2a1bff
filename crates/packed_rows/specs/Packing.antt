-- The bytes of rows and keys. All of this is our own.
use Rattle.std.specs.Prelude.{◌≡◌, ◌≢◌, ℕ, ◌+◌, ◌-◌, ◌^◌, ℤ, pos, negsuc, List, [], ◌∷◌, ◌++◌, if◌then◌else◌, map}
use Rattle.std.specs.List.{flat_map}
use Rattle.std.specs.Int.{w64, to_be_bytes}
use Rattle.packed_rows.specs.ConcatenatedRows.{LieAs}
use Rattle.grouping_model.specs.Datum.{Datum, Kind, Row, HasKind, HasKinds, Null, Bigint, Boolean, Text}

-- how far a number lies above the least of 64 bits: its two's complement with the topmost bit flipped
abbrev pub above_least : ℤ → ℕ
above_least (pos n) = 2 ^ 63 + n
above_least (negsuc n) = 2 ^ 63 - 1 - n

-- a null, or a mark and the value: 8 bytes of a number, one of a truth value, a text up to a zero
abbrev pub value_packing : Datum → List ℕ
value_packing Null = 2 ∷ []
value_packing (Bigint z) = 1 ∷ to_be_bytes w64 (above_least z)
value_packing (Boolean b) = 1 ∷ (if b then 1 else 0) ∷ []
value_packing (Text text) = 1 ∷ text ++ 0 ∷ []

-- the values of a row or a key in their order, with nothing between
abbrev pub packing : Row → List ℕ
packing row = flat_map value_packing row

-- the bytes of a row of these kinds
abbrev pub IsPacking : List Kind → List ℕ → Type 0
IsPacking kinds bytes = (row : Row) × HasKinds kinds row × (bytes ≡ packing row)

-- bytes that begin with a value of this kind
abbrev pub BeginsWithValue : Kind → List ℕ → Type 0
BeginsWithValue kind bytes = (value : Datum) × (rest : List ℕ) × HasKind kind value × (bytes ≡ value_packing value ++ rest)

-- bytes are the packings of values, each of which ends where these say
abbrev pub LieAsValues : List ℕ → List ℕ → Type 0
LieAsValues bytes ends = (row : Row) × LieAs bytes ends (map value_packing row)

-- the bytes are not a row of these kinds
abbrev pub IsNoPacking : List Kind → List ℕ → Type 0
IsNoPacking kinds bytes = (row : Row) → HasKinds kinds row → bytes ≢ packing row

-- a prefix of some bytes was appended to others
abbrev pub AppendsFront : List ℕ → List ℕ → List ℕ → Type 0
AppendsFront old new bytes = (front : List ℕ) × (back : List ℕ) × (bytes ≡ front ++ back) × (new ≡ old ++ front)
