-- The three contexts of a table in their tree: that they were made, and that they were not. All of this is our own.
use Rattle.std.specs.Prelude.{◌≡◌, ◌≢◌, ℕ, ◌+◌, ◌*◌, ◌<◌, ◌≤◌, ◌⊎◌, true, [], None, length, get_or}
use Rattle.chunk_contexts.specs.Set.{new_set}
use Rattle.chunk_contexts.specs.Slab.{new_slab}
use Rattle.chunk_contexts.specs.Run.{new_run}
use Rattle.chunk_contexts.specs.declared.rooms.TheConstants.{BLOCK}
use Rattle.chunk_contexts.specs.declared.error.ContextError.TheVariants.{NoMemory}
use Rattle.context_tree.specs.Contexts.{no_context, held_by}
use Rattle.context_tree.specs.Tree.{TreeState, IsWhole, is_there, context_at, held_below, with_new}
use Rattle.context_tree.specs.declared.context.Context.TheVariants.{AllocSet, Slab, Bump}
use Rattle.context_tree.specs.declared.error.TreeError.{TreeError}
use Rattle.context_tree.specs.declared.error.TreeError.TheVariants.{StampsSpent, Context}
use Rattle.context_tree.specs.declared.kind.Kind.{Kind}
use Rattle.context_tree.specs.declared.kind.Kind.TheVariants as kind
use Rattle.context_tree.specs.declared.links.ContextId.{ContextId}
use Rattle.group_table.specs.Table.{TableState}
use Rattle.group_table.specs.Standing.{IsChild, IsApart}
use Rattle.group_table.specs.declared.children.Children.{Children}

-- the three contexts of a table, whose states have this many bytes, are there below another, and empty. None is below another one of them,
-- or in the slot of a context that was there before. All that were there are as before, and no more is held below any. Three stamps are
-- spent
pub record AreMade (before after : TreeState) (parent : ContextId) (width : ℕ) (made : Children) : Type 0 where
  pub parent_there : is_there after parent ≡ true
  pub buckets : IsChild after parent made.buckets
  pub keys : IsChild after parent made.keys
  pub states : IsChild after parent made.states
  pub keys_apart : IsApart after.links made.buckets made.keys
  pub states_apart : IsApart after.links made.buckets made.states
  pub both_apart : IsApart after.links made.keys made.states
  pub stamps : after.last ≡ before.last + 3
  pub set : context_at after made.buckets ≡ AllocSet new_set
  pub run : context_at after made.keys ≡ Bump new_run
  pub slab : context_at after made.states ≡ Slab (new_slab width)
  pub held : (above : ContextId) → held_below after above ≡ held_below before above
  pub fresh : (id : ContextId) → is_there before id ≡ true
      → (is_there after id ≡ true) × (context_at after id ≡ context_at before id) × (id.slot ≢ made.buckets.slot)
      × (id.slot ≢ made.keys.slot) × (id.slot ≢ made.states.slot)
  pub links : (id : ContextId) → is_there before id ≡ true → get_or after.links id.slot None ≡ get_or before.links id.slot None

-- why this many contexts are not made: there are fewer stamps left, or there is no memory
abbrev pub IsRefusedOf : ℕ → TreeState → TreeError → Type 0
IsRefusedOf number before e = ((e ≡ StampsSpent) × (18446744073709551615 < before.last + number)) ⊎ (e ≡ Context NoMemory)

abbrev pub IsRefused : TreeState → TreeError → Type 0
IsRefused before e = IsRefusedOf 3 before e

-- the same contexts are there as before, each as it was and below the one that it was made below. As much is held below
-- any
pub record IsAsBefore (before after : TreeState) : Type 0 where
  pub there : (id : ContextId) → is_there after id ≡ is_there before id
  pub same : (id : ContextId) → is_there before id ≡ true → context_at after id ≡ context_at before id
  pub links : (id : ContextId) → is_there before id ≡ true → get_or after.links id.slot None ≡ get_or before.links id.slot None
  pub held : (above : ContextId) → held_below after above ≡ held_below before above

-- the links and the contexts are those from before, slot by slot; there may be more free slots at the end
pub record IsSameBySlot (before after : TreeState) : Type 0 where
  pub links : (slot : ℕ) → get_or after.links slot None ≡ get_or before.links slot None
  pub contexts : (slot : ℕ) → get_or after.contexts slot no_context ≡ get_or before.contexts slot no_context

-- a context of a kind was made below another, in a slot that was free
pub record IsNew (before after : TreeState) (parent : ContextId) (made : Kind) (id : ContextId) : Type 0 where
  pub free : get_or before.links id.slot None ≡ None
  pub low : id.slot ≤ length before.links
  pub is : after ≡ with_new before parent made id

-- those of keys and of states were made, in this order, by two stamps
pub record AreNew (before after : TreeState) (parent : ContextId) (width : ℕ) (keys states : ContextId) : Type 0 where
  pub between : TreeState
  pub keys_new : IsNew before between parent kind.Bump keys
  pub between_whole : IsWhole between
  pub states_new : IsNew between after parent (kind.Slab width) states
  pub whole : IsWhole after
  pub stamps : after.last ≡ before.last + 2

-- a new table has no group, its contexts hold nothing, all others are as before, and as much is held below any. Its contexts have spent
-- three stamps
pub record IsNewTable {H : Type 0} (before after : TreeState) (parent : ContextId) (width : ℕ) (hash : H) (t : TableState H) : Type 0 where
  pub slots : t.slots ≡ []
  pub array : t.array ≡ None
  pub parent_is : t.parent ≡ parent
  pub width_is : t.width ≡ width
  pub hash_is : t.hash ≡ hash
  pub stamps : after.last ≡ before.last + 3
  pub buckets : held_by (context_at after t.buckets) ≡ 0
  pub keys : held_by (context_at after t.keys) ≡ 0
  pub states : held_by (context_at after t.states) ≡ 0
  pub held : (above : ContextId) → held_below after above ≡ held_below before above
  pub others : (id : ContextId) → is_there before id ≡ true
      → (is_there after id ≡ true) × (context_at after id ≡ context_at before id) × (id.slot ≢ t.buckets.slot) × (id.slot ≢ t.keys.slot)
      × (id.slot ≢ t.states.slot)
  pub links : (id : ContextId) → is_there before id ≡ true → get_or after.links id.slot None ≡ get_or before.links id.slot None

-- a table was cleared: its first block of buckets is left, or none was there
pub record IsCleared {H : Type 0} (t : TableState H) (after : TreeState) : Type 0 where
  pub buckets : (held_by (context_at after t.buckets) ≡ 0) ⊎ (held_by (context_at after t.buckets) ≡ 2 * BLOCK)
  pub keys : held_by (context_at after t.keys) ≡ 0
  pub states : held_by (context_at after t.states) ≡ 0
