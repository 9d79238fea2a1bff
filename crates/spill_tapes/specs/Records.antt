-- The bytes of records on a tape. All of this is our own.
use Rattle.std.specs.Prelude.{ℕ, ◌+◌, ◌^◌, ◌<◌, ◌≤◌, List, [], ◌∷◌, ◌++◌, length, get_or}
use Rattle.std.specs.Int.{w32, from_be_bytes, to_be_bytes}
use Rattle.std.specs.List.{flat_map}
use Rattle.spill_tapes.specs.declared.limits.TheConstants.{MAX_RECORD_LEN}

-- a record: a hash, a tag, and bytes
pub record Record : Type 0 where
  pub hash : ℕ
  pub tag : ℕ
  pub bytes : List ℕ

-- a record that a tape can have
pub record IsRecord (r : Record) : Type 0 where
  pub hash : r.hash < 2 ^ 32
  pub tag : r.tag < 2
  pub len : length r.bytes ≤ MAX_RECORD_LEN

abbrev pub AreRecords : List Record → Type 0
AreRecords [] = Unit {0}
AreRecords (r ∷ rs) = IsRecord r × AreRecords rs

-- its bytes: the hash in 4 bytes, the tag in one, the length in 4, the highest byte first, and then its bytes
unfoldable pub header_of : ℕ → ℕ → ℕ → List ℕ
header_of hash tag len = to_be_bytes w32 hash ++ (tag ∷ to_be_bytes w32 len)

abbrev pub record_bytes : Record → List ℕ
record_bytes r = header_of r.hash r.tag (length r.bytes) ++ r.bytes

-- the bytes of records one after the other
abbrev pub tape_bytes : List Record → List ℕ
tape_bytes rs = flat_map record_bytes rs

-- what nine bytes are as the front of a record
unfoldable pub number_at : List ℕ → ℕ → ℕ
number_at bytes at = from_be_bytes w32 (get_or bytes at 0 ∷ get_or bytes (at + 1) 0 ∷ get_or bytes (at + 2) 0 ∷ get_or bytes (at + 3) 0
    ∷ [])
