-- What is true of a table and the tree in which its contexts are.
use Rattle.std.specs.Prelude.{◌≡◌, ◌≢◌, ℕ, ◌*◌, ◌/◌, ◌<◌, ◌≤◌, ◌⊎◌, true, false, List, [], Option, Some, None, length, get_or, slice_get}
use Rattle.std.specs.Prelude.{is_some, IsTrue}
use Rattle.chunk_layout.specs.Contents.{same_place, place_of, contents_at, size_at, total}
use Rattle.chunk_layout.specs.declared.place.ChunkName.{ChunkName}
use Rattle.chunk_contexts.specs.Chunks.{is_live, bytes_of}
use Rattle.chunk_contexts.specs.Set.{SetState, new_set, set_room}
use Rattle.chunk_contexts.specs.declared.rooms.TheConstants.{BLOCK, LARGEST}
use Rattle.context_tree.specs.Contexts.{no_context, has_chunk, chunk_bytes}
use Rattle.context_tree.specs.Links.{parent_of, is_below, is_under}
use Rattle.context_tree.specs.Tree.{TreeState, is_there, context_at}
use Rattle.context_tree.specs.declared.context.Context.{Context}
use Rattle.context_tree.specs.declared.context.Context.TheVariants.{AllocSet, Slab, Bump}
use Rattle.context_tree.specs.declared.links.ContextId.{ContextId}
use Rattle.context_tree.specs.declared.links.Link.{Link}
use Rattle.group_table.specs.Index.{IsIndex, in_use, Holds}
use Rattle.group_table.specs.Table.{TableState, IsSlot, most_buckets}
use Rattle.group_table.specs.declared.bucket.Bucket.{Bucket}
use Rattle.group_table.specs.declared.limits.TheConstants.{LONGEST}
use Rattle.group_table.specs.declared.table.Slot.{Slot}

-- a context is there, below another
pub record IsChild (tree : TreeState) (parent id : ContextId) : Type 0 where
  pub there : is_there tree id ≡ true
  pub within : id.slot < length tree.contexts
  pub up : parent_of (get_or tree.links id.slot None) ≡ Some parent.slot
  pub below : is_below tree.links parent.slot id.slot ≡ true

-- neither of two contexts is below the other
pub record IsApart (links : List (Option Link)) (a b : ContextId) : Type 0 where
  pub differ : a.slot ≢ b.slot
  pub not_first : is_under links a.slot b.slot ≡ false
  pub not_last : is_under links b.slot a.slot ≡ false

-- a set with this property; a bump; and a slab of chunks of this size
abbrev pub IsSetWith : (SetState → Type 0) → Context → Type 0
IsSetWith P (AllocSet s) = P s
IsSetWith P _ = ⊥

abbrev pub IsBump : Context → Type 0
IsBump (Bump s) = Unit {0}
IsBump _ = ⊥

abbrev pub IsSlabOf : ℕ → Context → Type 0
IsSlabOf width (Slab s) = s.size ≡ width
IsSlabOf width _ = ⊥

-- the first block of the set of buckets is the one that the first array took
pub record IsFirst (s : SetState) : Type 0 where
  pub none : s.first ≡ None → s.blocks ≡ []
  pub size : (block : ℕ) → s.first ≡ Some block → size_at s.blocks block ≡ 2 * BLOCK

-- a chunk has the room of its class; and one that has a block of its own is not in the first block
pub record IsBesideFirst (s : SetState) (name : ChunkName) : Type 0 where
  pub room : (contents_at s.chunks (place_of name)).room ≡ set_room name.len
  pub own : LARGEST < name.len → s.first ≢ Some name.block

-- the bucket of a group, whose key is a chunk of this context; and the slot of a bucket's group
abbrev pub bucket_of : {H : Type 0} → (H → List ℕ → ℕ) → TableState H → Context → Slot → Bucket
bucket_of hash_of t keys slot = record { key = slot.key; state = slot.state; hash = hash_of t.hash (chunk_bytes keys slot.key) }

abbrev pub slot_of : Bucket → Slot
slot_of b = record { key = b.key; state = b.state }

-- the bytes of an array say where the groups are, each once
pub record IsArrayOf {H : Type 0} (hash_of : H → List ℕ → ℕ) (t : TableState H) (keys : Context) (bytes : List ℕ) (count : ℕ) : Type 0 where
  pub index : IsIndex bytes count
  pub number : in_use bytes count ≡ length t.slots
  pub kept : (slot : Slot) → IsSlot t slot → Holds bytes count (bucket_of hash_of t keys slot)
  pub only : (b : Bucket) → Holds bytes count b → IsSlot t (slot_of b) × (b.hash ≡ hash_of t.hash (chunk_bytes keys b.key))

-- the array is a chunk of the set
pub record IsArrayIn {H : Type 0} (hash_of : H → List ℕ → ℕ) (t : TableState H) (keys : Context) (s : SetState) (name : ChunkName) :
    Type 0 where
  pub lives : IsTrue (is_live s.chunks name)
  pub whole : name.len ≡ 32 * (name.len / 32)
  pub some : 256 ≤ name.len / 32
  pub most : name.len / 32 ≤ most_buckets
  pub full : 4 * length t.slots ≤ 3 * (name.len / 32)
  pub first : is_some s.first ≡ true
  pub beside : IsBesideFirst s name
  pub array : IsArrayOf hash_of t keys (bytes_of s.chunks name) (name.len / 32)

-- where there is no array, there is no group
abbrev pub HasArray : {H : Type 0} → (H → List ℕ → ℕ) → TableState H → Context → Option ChunkName → SetState → Type 0
HasArray hash_of t keys None s = t.slots ≡ []
HasArray hash_of t keys (Some name) s = IsArrayIn hash_of t keys s name

-- and then the set is new, or has its first block alone, with room for a first array
pub record HasFirst (s : SetState) : Type 0 where
  pub some : is_some s.first ≡ true
  pub left : 8200 ≤ s.left
  pub most : total s.blocks ≤ 2 * BLOCK

abbrev pub HasSpace : Option ChunkName → SetState → Type 0
HasSpace None s = (s ≡ new_set) ⊎ HasFirst s
HasSpace (Some name) s = Unit {0}

-- each group has a key and a state of its own, and no two have the same key
pub record AreGroups {H : Type 0} (t : TableState H) (keys states : Context) : Type 0 where
  pub keys_live : (slot : Slot) → IsSlot t slot → IsTrue (has_chunk keys slot.key)
  pub states_live : (slot : Slot) → IsSlot t slot → IsTrue (has_chunk states slot.state)
  pub widths : (slot : Slot) → IsSlot t slot → slot.state.len ≡ t.width
  pub once : (i j : ℕ) → (x y : Slot) → slice_get t.slots i ≡ Some x → slice_get t.slots j ≡ Some y → chunk_bytes keys x.key
      ≡ chunk_bytes keys y.key → i ≡ j
  pub own : (i j : ℕ) → (x y : Slot) → slice_get t.slots i ≡ Some x → slice_get t.slots j ≡ Some y
      → same_place (place_of x.state) (place_of y.state) ≡ true → i ≡ j

-- the three contexts of a table are those of its groups
pub record Stands {H : Type 0} (hash_of : H → List ℕ → ℕ) (t : TableState H) (buckets keys states : Context) : Type 0 where
  pub set : IsSetWith (λ s. IsFirst s × HasArray hash_of t keys t.array s) buckets
  pub run : IsBump keys
  pub slab : IsSlabOf t.width states
  pub width : t.width ≤ LONGEST
  pub groups : AreGroups t keys states

-- they are in a tree, beside one another
pub record IsPlaced {H : Type 0} (t : TableState H) (tree : TreeState) : Type 0 where
  pub parent : is_there tree t.parent ≡ true
  pub buckets : IsChild tree t.parent t.buckets
  pub keys : IsChild tree t.parent t.keys
  pub states : IsChild tree t.parent t.states
  pub keys_apart : IsApart tree.links t.buckets t.keys
  pub states_apart : IsApart tree.links t.buckets t.states
  pub both_apart : IsApart tree.links t.keys t.states

-- a table stands in a tree: its contexts are there, and those of its groups
pub record IsStanding {H : Type 0} (hash_of : H → List ℕ → ℕ) (t : TableState H) (tree : TreeState) : Type 0 where
  pub placed : IsPlaced t tree
  pub stands : Stands hash_of t (context_at tree t.buckets) (context_at tree t.keys) (context_at tree t.states)

-- and where it has no array, there is room for a first one
pub record IsTableIn {H : Type 0} (hash_of : H → List ℕ → ℕ) (t : TableState H) (tree : TreeState) : Type 0 where
  pub standing : IsStanding hash_of t tree
  pub space : IsSetWith (HasSpace t.array) (context_at tree t.buckets)

-- the other contexts of a tree are as they were
pub record KeepsOthers {H : Type 0} (t : TableState H) (before after : TreeState) : Type 0 where
  pub links : after.links ≡ before.links
  pub last : after.last ≡ before.last
  pub number : length after.contexts ≡ length before.contexts
  pub others : (slot : ℕ) → slot ≢ t.buckets.slot → slot ≢ t.keys.slot → slot ≢ t.states.slot → get_or after.contexts slot no_context
      ≡ get_or before.contexts slot no_context

-- a slot is that of none of the three contexts of a table, and of none below them
pub record IsBeside {H : Type 0} (t : TableState H) (links : List (Option Link)) (slot : ℕ) : Type 0 where
  pub buckets : is_below links t.buckets.slot slot ≡ false
  pub keys : is_below links t.keys.slot slot ≡ false
  pub states : is_below links t.states.slot slot ≡ false

-- the contexts of a tree that are beside those of a table are as they were
pub record KeepsBeside {H : Type 0} (t : TableState H) (before after : TreeState) : Type 0 where
  pub last : after.last ≡ before.last
  pub number : length after.contexts ≡ length before.contexts
  pub links : (slot : ℕ) → IsBeside t before.links slot → get_or after.links slot None ≡ get_or before.links slot None
  pub contexts : (slot : ℕ) → IsBeside t before.links slot → get_or after.contexts slot no_context ≡ get_or before.contexts slot no_context

-- the parent and the three contexts of a table are where they were, and these hold what they held
pub record IsSameFor {H : Type 0} (t : TableState H) (before after : TreeState) : Type 0 where
  pub parent : get_or after.links t.parent.slot None ≡ get_or before.links t.parent.slot None
  pub buckets : get_or after.links t.buckets.slot None ≡ get_or before.links t.buckets.slot None
  pub keys : get_or after.links t.keys.slot None ≡ get_or before.links t.keys.slot None
  pub states : get_or after.links t.states.slot None ≡ get_or before.links t.states.slot None
  pub in_buckets : context_at after t.buckets ≡ context_at before t.buckets
  pub in_keys : context_at after t.keys ≡ context_at before t.keys
  pub in_states : context_at after t.states ≡ context_at before t.states
