-- The bytes of the bucket array: 32 for each bucket. All of this is our own.
use Rattle.std.specs.Prelude.{◌≡◌, ℕ, ◌+◌, ◌*◌, ◌==◌, cond, List, [], ◌∷◌, Option, Some, None, get_or, slice_range}
use Rattle.std.specs.Int.{w32, from_be_bytes}
use Rattle.chunk_layout.specs.declared.place.ChunkName.{ChunkName}
use Rattle.group_table.specs.declared.bucket.Bucket.{Bucket}

-- the number of four bytes from a place on, the highest first, and the name of twelve
unfoldable pub number_at : List ℕ → ℕ → ℕ
number_at bytes at = from_be_bytes w32 (get_or bytes at 0 ∷ get_or bytes (at + 1) 0 ∷ get_or bytes (at + 2) 0 ∷ get_or bytes (at + 3) 0
    ∷ [])

abbrev pub name_at : List ℕ → ℕ → ChunkName
name_at bytes at = record { block = number_at bytes at; offset = number_at bytes (at + 4); len = number_at bytes (at + 8) }

-- a bucket: the names of its group's key and state, the hash of the key, and 0 where it is not in use
unfoldable pub bucket_in : List ℕ → Option Bucket
bucket_in bytes = cond (number_at bytes 28 == 0) None
    (Some (record { key = name_at bytes 0; state = name_at bytes 12; hash = number_at bytes 24 }))

-- the bucket at a place of an array
unfoldable pub bucket_at : List ℕ → ℕ → Option Bucket
bucket_at array place = bucket_in (slice_range array (place * 32) (place * 32 + 32))

-- a bucket is in use, and its key has this hash
abbrev pub IsHashOf : Option Bucket → ℕ → Type 0
IsHashOf None hash = ⊥
IsHashOf (Some b) hash = b.hash ≡ hash
