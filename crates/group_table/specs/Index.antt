-- An array of buckets in which groups are found by the hashes of their keys: by linear probing (D. Knuth, The Art of Computer
-- Programming, volume 3, 6.4, algorithm L), as in `src/include/lib/simplehash.h` of PostgreSQL.
use Rattle.std.specs.Prelude.{◌≡◌, ◌≢◌, ℕ, zero, suc, ◌+◌, ◌*◌, ◌-◌, ◌<◌, ◌&&◌, ◌||◌, nat_le, nat_lt, Bool, true, cond, if◌then◌else◌, List}
use Rattle.std.specs.Prelude.{Some, None, length, is_some}
use Rattle.std.specs.Int.Bits.{bit_and}
use Rattle.group_table.specs.Buckets.{bucket_at}
use Rattle.group_table.specs.declared.bucket.Bucket.{Bucket}

-- the place in an array of this many buckets where the search for a hash begins
abbrev pub start_of : ℕ → ℕ → ℕ
start_of hash count = bit_and hash (count - 1)

-- whether a search that begins at one place passes another before it comes to a third. It goes from each place to the next,
-- and from the last to the first
abbrev pub passes : ℕ → ℕ → ℕ → Bool
passes start end place = if nat_le start end then nat_le start place && nat_lt place end else (nat_le start place || nat_lt place end)

-- the search passes no free bucket from one place to another
abbrev pub IsPath : List ℕ → ℕ → ℕ → ℕ → Type 0
IsPath array count start end = (place : ℕ) → place < count → passes start end place ≡ true → is_some (bucket_at array place) ≡ true

-- a bucket is free, and the search for a hash comes to it before any other free one
pub record IsFreeFor (array : List ℕ) (count hash place : ℕ) : Type 0 where
  pub within : place < count
  pub free : bucket_at array place ≡ None
  pub path : IsPath array count (start_of hash count) place

-- each group is found where the search for its hash comes to before any free bucket
pub record IsIndex (array : List ℕ) (count : ℕ) : Type 0 where
  pub long : length array ≡ 32 * count
  pub found : (place : ℕ) → (b : Bucket) → place < count → bucket_at array place ≡ Some b → IsPath array count (start_of b.hash count) place

-- how many of the first n buckets are in use
unfoldable pub in_use : List ℕ → ℕ → ℕ
in_use array zero = 0
in_use array (suc n) = cond (is_some (bucket_at array n)) (in_use array n + 1) (in_use array n)

-- a bucket is one of the first n
abbrev pub Holds : List ℕ → ℕ → Bucket → Type 0
Holds array n b = (place : ℕ) × (place < n) × (bucket_at array place ≡ Some b)

-- a bucket was put where a free one was
pub record Puts (old new : List ℕ) (count : ℕ) (b : Bucket) : Type 0 where
  pub place : ℕ
  pub within : place < count
  pub free : bucket_at old place ≡ None
  pub there : bucket_at new place ≡ Some b
  pub others : (other : ℕ) → other ≢ place → bucket_at new other ≡ bucket_at old other

-- one array has the buckets of the first n of another, and no more
pub record HasAll (new : List ℕ) (count : ℕ) (old : List ℕ) (n : ℕ) : Type 0 where
  pub index : IsIndex new count
  pub number : in_use new count ≡ in_use old n
  pub kept : (b : Bucket) → Holds old n b → Holds new count b
  pub only : (b : Bucket) → Holds new count b → Holds old n b
