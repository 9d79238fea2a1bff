-- A table of groups as its users see it: a finite map from the bytes of keys to the bytes of states.
use Rattle.std.specs.Prelude.{◌≡◌, ◌≢◌, ℕ, ◌+◌, ◌*◌, ◌/◌, ◌==◌, ◌&&◌, max, nat_le, Bool, cond, if◌then◌else◌, List, Option, Some, None, map}
use Rattle.std.specs.Prelude.{length, slice_get}
use Rattle.chunk_layout.specs.declared.place.ChunkName.{ChunkName}
use Rattle.context_tree.specs.Contexts.{chunk_bytes, growth_of, held_by}
use Rattle.context_tree.specs.Tree.{TreeState, context_at, held_below, reset}
use Rattle.context_tree.specs.declared.links.ContextId.{ContextId}
use Rattle.group_table.specs.declared.table.Slot.{Slot}

-- a table: the context below which it has its own, and these; how many bytes a state has; and the hash function. Then the name of the
-- bucket array, if there is one; the groups in the order in which they came; and how many more can be noted without memory
pub record TableState (H : Type 0) : Type 0 where
  pub parent : ContextId
  pub buckets : ContextId
  pub keys : ContextId
  pub states : ContextId
  pub width : ℕ
  pub hash : H
  pub array : Option ChunkName
  pub slots : List Slot
  pub spare : ℕ

-- the key and the state of a group
abbrev pub key_in : {H : Type 0} → TableState H → TreeState → Slot → List ℕ
key_in t tree slot = chunk_bytes (context_at tree t.keys) slot.key

abbrev pub state_in : {H : Type 0} → TableState H → TreeState → Slot → List ℕ
state_in t tree slot = chunk_bytes (context_at tree t.states) slot.state

abbrev pub group_in : {H : Type 0} → TableState H → TreeState → Slot → List ℕ × List ℕ
group_in t tree slot = (key_in t tree slot, state_in t tree slot)

-- all groups, in the order in which they came
abbrev pub groups : {H : Type 0} → TableState H → TreeState → List (List ℕ × List ℕ)
groups t tree = map (group_in t tree) t.slots

-- a slot is that of a group of the table; and of the group of this key
abbrev pub IsSlot : {H : Type 0} → TableState H → Slot → Type 0
IsSlot t slot = (place : ℕ) × (slice_get t.slots place ≡ Some slot)

abbrev pub Names : {H : Type 0} → TableState H → TreeState → Slot → List ℕ → Type 0
Names t tree slot key = IsSlot t slot × (key_in t tree slot ≡ key)

-- no group has this key
abbrev pub HasNo : {H : Type 0} → TableState H → TreeState → List ℕ → Type 0
HasNo t tree key = (slot : Slot) → IsSlot t slot → key_in t tree slot ≢ key

-- how many buckets there are, and how many there are to be for one more group: the table doubles before more than three
-- quarters are in use
abbrev pub buckets_in : Option ChunkName → ℕ
buckets_in None = 0
buckets_in (Some name) = name.len / 32

abbrev pub buckets_for : ℕ → ℕ → ℕ
buckets_for count number = if nat_le (4 * (number + 1)) (3 * count) then count else max 256 (2 * count)

-- the most buckets that a table has
abbrev pub most_buckets : ℕ
most_buckets = 16777216

-- how many bytes of blocks one more group takes: for a new array of buckets beside the old one, if one is needed, for a key of this many
-- bytes, and for a state
abbrev pub array_growth : {H : Type 0} → TableState H → TreeState → ℕ
array_growth t tree =
    let wanted = buckets_for (buckets_in t.array) (length t.slots) in
    cond (wanted == buckets_in t.array) 0 (growth_of (context_at tree t.buckets) (wanted * 32))

abbrev pub group_growth : {H : Type 0} → TableState H → TreeState → ℕ → ℕ
group_growth t tree n = array_growth t tree + growth_of (context_at tree t.keys) n + growth_of (context_at tree t.states) t.width

-- whether one more group, with a key of this many bytes, keeps within the most buckets. At each step it keeps within a limit on what is
-- held below the parent, too
abbrev pub has_room : {H : Type 0} → TableState H → TreeState → ℕ → ℕ → Bool
has_room t tree n limit = nat_le (held_below tree t.parent + group_growth t tree n) limit
    && nat_le (buckets_for (buckets_in t.array) (length t.slots)) most_buckets

-- what the three contexts of a table hold; and a tree in which the three are reset
abbrev pub held_in : {H : Type 0} → TableState H → TreeState → ℕ
held_in t tree = held_by (context_at tree t.buckets) + held_by (context_at tree t.keys) + held_by (context_at tree t.states)

abbrev pub without_groups : {H : Type 0} → TableState H → TreeState → TreeState
without_groups t tree = reset (reset (reset tree t.buckets) t.keys) t.states

-- nothing is held below the parent but by the buckets
pub record IsEmptied {H : Type 0} (t : TableState H) (tree : TreeState) : Type 0 where
  pub array : t.array ≡ None
  pub keys : held_by (context_at tree t.keys) ≡ 0
  pub states : held_by (context_at tree t.states) ≡ 0
  pub buckets : held_below tree t.parent ≡ held_by (context_at tree t.buckets)

-- after is the table before with other groups
pub record IsSameBut {H : Type 0} (before after : TableState H) : Type 0 where
  pub parent : after.parent ≡ before.parent
  pub buckets : after.buckets ≡ before.buckets
  pub keys : after.keys ≡ before.keys
  pub states : after.states ≡ before.states
  pub width : after.width ≡ before.width
  pub hash : after.hash ≡ before.hash
