-- Arrays of buckets in a set of a tree.
use Rattle.std.specs.Prelude.{◌≡◌, ℕ, ◌+◌, ◌-◌, ◌*◌, ◌/◌, ◌<◌, ◌≤◌, List, [], ◌∷◌, ◌++◌, Option, Some, None, length, is_some, IsTrue, true}
use Rattle.std.specs.Prelude.{false}
use Rattle.chunk_layout.specs.Contents.{same_place, place_of, contents_at}
use Rattle.chunk_layout.specs.declared.place.Place.{Place}
use Rattle.chunk_layout.specs.declared.place.ChunkName.{ChunkName}
use Rattle.chunk_contexts.specs.Chunks.{KeepsOthers}
use Rattle.chunk_contexts.specs.Set.{SetState}
use Rattle.context_tree.specs.Contexts.{chunks_of, has_chunk, chunk_bytes}
use Rattle.context_tree.specs.Tree.{TreeState, is_there, context_at, with_context}
use Rattle.context_tree.specs.declared.context.Context.{Context}
use Rattle.context_tree.specs.declared.context.Context.TheVariants.{AllocSet}
use Rattle.context_tree.specs.declared.links.ContextId.{ContextId}
use Rattle.group_table.specs.Buckets.{bucket_at}
use Rattle.group_table.specs.Table.{TableState, key_in, state_in, IsSlot, most_buckets}
use Rattle.group_table.specs.Standing.{IsSetWith, IsBesideFirst}
use Rattle.group_table.specs.declared.table.Slot.{Slot}

-- a set of which only the bytes of one chunk are others
pub record IsRewritten (before after : Context) (name : ChunkName) : Type 0 where
  pub old : SetState
  pub new : SetState
  pub before_is : before ≡ AllocSet old
  pub after_is : after ≡ AllocSet new
  pub blocks : new.blocks ≡ old.blocks
  pub free : new.free ≡ old.free
  pub left : new.left ≡ old.left
  pub next : new.next ≡ old.next
  pub first : new.first ≡ old.first
  pub rooms : (place : Place) → (contents_at new.chunks place).room ≡ (contents_at old.chunks place).room
  pub lives : IsTrue (has_chunk after name)
  pub keeps : KeepsOthers (chunks_of before) (chunks_of after) name name

-- an array in a set of a tree
pub record IsArrayAt (tree : TreeState) (id : ContextId) (name : ChunkName) : Type 0 where
  pub there : is_there tree id ≡ true
  pub within : id.slot < length tree.contexts
  pub set : SetState
  pub is_set : context_at tree id ≡ AllocSet set
  pub lives : IsTrue (has_chunk (context_at tree id) name)
  pub whole : name.len ≡ 32 * (name.len / 32)

-- the tree after has another context of this id, and is as before but for it
abbrev pub OnlyIn : ContextId → TreeState → TreeState → Type 0
OnlyIn id before after = after ≡ with_context before id (context_at after id)

-- the bytes of a chunk of a context, and how many buckets they are
abbrev pub bytes_at : TreeState → ContextId → ChunkName → List ℕ
bytes_at tree id name = chunk_bytes (context_at tree id) name

abbrev pub count_of : ChunkName → ℕ
count_of name = name.len / 32

-- a chunk of zeros that is to be the next array of a table
pub record IsSpare {H : Type 0} (t : TableState H) (tree : TreeState) (name : ChunkName) : Type 0 where
  pub array : IsArrayAt tree t.buckets name
  pub some : 256 ≤ count_of name
  pub most : count_of name ≤ most_buckets
  pub room : 4 * (length t.slots + 1) ≤ 3 * count_of name
  pub empty : (place : ℕ) → place < count_of name → bucket_at (bytes_at tree t.buckets name) place ≡ None
  pub apart : (old : ChunkName) → t.array ≡ Some old → same_place (place_of name) (place_of old) ≡ false
  pub longer : (old : ChunkName) → t.array ≡ Some old → old.len ≤ name.len
  pub beside : IsSetWith (λ s. (is_some s.first ≡ true) × IsBesideFirst s name) (context_at tree t.buckets)

-- there is one, or the array of the table has room for one more group
abbrev pub HasNext : {H : Type 0} → TableState H → TreeState → Option ChunkName → Type 0
HasNext t tree None = (name : ChunkName) × (t.array ≡ Some name) × (4 * (length t.slots + 1) ≤ 3 * count_of name)
HasNext t tree (Some name) = IsSpare t tree name

-- chunks of a key and of a state that are to be those of the next group
pub record IsNext {H : Type 0} (t : TableState H) (tree : TreeState) (key state : List ℕ) (slot : Slot) : Type 0 where
  pub key_live : IsTrue (has_chunk (context_at tree t.keys) slot.key)
  pub key_is : key_in t tree slot ≡ key
  pub state_live : IsTrue (has_chunk (context_at tree t.states) slot.state)
  pub state_is : state_in t tree slot ≡ state
  pub width : slot.state.len ≡ t.width
  pub own : (other : Slot) → IsSlot t other → same_place (place_of slot.state) (place_of other.state) ≡ false

-- a table with one more group
abbrev pub with_slot : {H : Type 0} → TableState H → Slot → TableState H
with_slot t slot = record {
  parent = t.parent;
  buckets = t.buckets;
  keys = t.keys;
  states = t.states;
  width = t.width;
  hash = t.hash;
  array = t.array;
  slots = t.slots ++ slot ∷ [];
  spare = t.spare - 1;
}

-- with the next array, if there is one
abbrev pub next_or : Option ChunkName → Option ChunkName → Option ChunkName
next_or None array = array
next_or (Some name) array = Some name

abbrev pub with_next : {H : Type 0} → TableState H → Option ChunkName → TableState H
with_next t next = record {
  parent = t.parent;
  buckets = t.buckets;
  keys = t.keys;
  states = t.states;
  width = t.width;
  hash = t.hash;
  array = next_or next t.array;
  slots = t.slots;
  spare = t.spare;
}

-- with room to note this many groups without memory
abbrev pub with_spare : {H : Type 0} → TableState H → ℕ → TableState H
with_spare t n = record {
  parent = t.parent;
  buckets = t.buckets;
  keys = t.keys;
  states = t.states;
  width = t.width;
  hash = t.hash;
  array =
      t.array;
  slots = t.slots;
  spare = n;
}
