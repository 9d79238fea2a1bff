-- What a search among buckets finds. All of this is our own.
use Rattle.std.specs.Prelude.{◌≡◌, ◌≢◌, ℕ, ◌<◌, ◌≤◌, List, Some, None}
use Rattle.context_tree.specs.Contexts.{chunk_bytes}
use Rattle.context_tree.specs.declared.context.Context.{Context}
use Rattle.group_table.specs.Buckets.{bucket_at}
use Rattle.group_table.specs.Index.{Holds, IsFreeFor}
use Rattle.group_table.specs.declared.bucket.Bucket.{Bucket}
use Rattle.group_table.specs.declared.search.Probe.{Probe}
use Rattle.group_table.specs.declared.search.Probe.TheVariants.{Found, Free, Passed}
use Rattle.group_table.specs.declared.search.Sought.{Sought}
use Rattle.group_table.specs.declared.search.Sought.TheVariants as sought

-- the bucket at a place is in use, and its key, one of these, is another one
abbrev pub IsOther : Context → List ℕ → ℕ → List ℕ → ℕ → Type 0
IsOther keys array hash key place = (b : Bucket) × (bucket_at array place ≡ Some b) × (b.hash ≡ hash → chunk_bytes keys b.key ≢ key)

-- at a place there is the bucket of a key; or a free one; or another
abbrev pub Meets : Context → List ℕ → ℕ → ℕ → List ℕ → Probe → Type 0
Meets keys array place hash key (Found b) = (bucket_at array place ≡ Some b) × (chunk_bytes keys b.key ≡ key)
Meets keys array place hash key (Free free) = bucket_at array place ≡ None
Meets keys array place hash key Passed = IsOther keys array hash key place

-- from one place on and before another there is the bucket of a key; or a free one, and others before it; or others alone
abbrev pub Tells : Context → List ℕ → ℕ → ℕ → ℕ → List ℕ → Probe → Type 0
Tells keys array from to hash key (Found b) = (place : ℕ) × (from ≤ place) × (place < to) × (bucket_at array place ≡ Some b)
    × (chunk_bytes keys b.key ≡ key)
Tells keys array from to hash key (Free place) = (from ≤ place) × (place < to) × (bucket_at array place ≡ None)
    × ((other : ℕ) → from ≤ other → other < place → IsOther keys array hash key other)
Tells keys array from to hash key Passed = (other : ℕ) → from ≤ other → other < to → IsOther keys array hash key other

-- the bucket of a key among all of them; or no bucket has the key, if keys have one hash each, and the search ends at a free one
abbrev pub HasNone : Context → List ℕ → ℕ → ℕ → List ℕ → Type 0
HasNone keys array count hash key = (b : Bucket) → Holds array count b → b.hash ≡ hash → chunk_bytes keys b.key ≢ key

abbrev pub Finds : Context → List ℕ → ℕ → ℕ → List ℕ → Sought → Type 0
Finds keys array count hash key (sought.Found b) = Holds array count b × (chunk_bytes keys b.key ≡ key)
Finds keys array count hash key (sought.Free place) = HasNone keys array count hash key × IsFreeFor array count hash place
