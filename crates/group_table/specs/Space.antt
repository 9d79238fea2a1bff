-- What the contexts of a table hold, as it is counted by its keys.
use Rattle.std.specs.Prelude.{◌≡◌, ℕ, ◌+◌, ◌*◌, ◌<◌, nat_le, Bool, false, List, [], ◌∷◌, Option, Some, None, map, length}
use Rattle.chunk_layout.specs.Contents.{size_at, total}
use Rattle.chunk_layout.specs.declared.place.ChunkName.{ChunkName}
use Rattle.chunk_contexts.specs.Rooms.{rounded}
use Rattle.chunk_contexts.specs.Run.{RunState}
use Rattle.chunk_contexts.specs.Set.{SetState}
use Rattle.chunk_contexts.specs.Slab.{SlabState, slab_block}
use Rattle.context_tree.specs.Tree.{TreeState, context_at, held_below}
use Rattle.context_tree.specs.declared.context.Context.{Context}
use Rattle.context_tree.specs.declared.context.Context.TheVariants.{Slab, Bump}
use Rattle.aggregation_cost.specs.Space.{buckets, array_block, bucket_blocks, key_room, state_blocks}
use Rattle.group_table.specs.Table.{TableState, groups, held_in}
use Rattle.group_table.specs.Standing.{IsSetWith}

-- the key of a group, and those of all groups of a table, in the order in which they came
abbrev pub key_of : List ℕ × List ℕ → List ℕ
key_of group = group.0

abbrev pub keys_in : {H : Type 0} → TableState H → TreeState → List (List ℕ)
keys_in t tree = map key_of (groups t tree)

-- whether a number of bytes is there, and within a limit
abbrev pub is_within : Option ℕ → ℕ → Bool
is_within None limit = false
is_within (Some bytes) limit = nat_le bytes limit

-- a bump, and a slab, with this property
abbrev pub IsRunWith : (RunState → Type 0) → Context → Type 0
IsRunWith P (Bump s) = P s
IsRunWith P _ = ⊥

abbrev pub IsSlabWith : (SlabState → Type 0) → Context → Type 0
IsSlabWith P (Slab s) = P s
IsSlabWith P _ = ⊥

-- an array of this many buckets in a set: one that is longer than the first has a block of its own
pub record IsArraySized (s : SetState) (name : ChunkName) (n : ℕ) : Type 0 where
  pub len : name.len ≡ 32 * n
  pub own : 256 < n → size_at s.blocks name.block ≡ array_block n

-- a set holds the array of this many groups, and nothing else
pub record IsArrayHeld (s : SetState) (name : ChunkName) (number : ℕ) : Type 0 where
  pub some : 0 < number
  pub size : IsArraySized s name (buckets number)
  pub held : total s.blocks ≡ bucket_blocks (buckets number) (buckets number)

abbrev pub HoldsArray : Option ChunkName → ℕ → SetState → Type 0
HoldsArray None number s = number ≡ 0
HoldsArray (Some name) number s = IsArrayHeld s name number

-- a set holds the array of this many groups and the next one, and nothing else; or, where none is taken, the array of this many groups is
-- that of one group more
abbrev pub IsOlder : Option ChunkName → ℕ → SetState → Type 0
IsOlder None number s = number ≡ 0
IsOlder (Some old) number s = IsArraySized s old (buckets number) × (buckets number < buckets (number + 1))

pub record AreArraysHeld (s : SetState) (array : Option ChunkName) (name : ChunkName) (number : ℕ) : Type 0 where
  pub older : IsOlder array number s
  pub size : IsArraySized s name (buckets (number + 1))
  pub held : total s.blocks ≡ bucket_blocks (buckets number) (buckets (number + 1))

abbrev pub HoldsNext : Option ChunkName → Option ChunkName → ℕ → SetState → Type 0
HoldsNext array None number s = HoldsArray array (number + 1) s
HoldsNext array (Some name) number s = AreArraysHeld s array name number

-- a bump holds some keys, in this order, and nothing else
pub record HoldsKeyBlocks (keys : List (List ℕ)) (s : RunState) : Type 0 where
  pub held : total s.blocks ≡ (key_room keys).held
  pub left : s.left ≡ (key_room keys).left

-- all blocks have this size
abbrev pub AreOfSize : ℕ → List (Option ℕ) → Type 0
AreOfSize size [] = Unit {0}
AreOfSize size (None ∷ blocks) = AreOfSize size blocks
AreOfSize size (Some block ∷ blocks) = (block ≡ size) × AreOfSize size blocks

-- a slab holds this many states of a width, and nothing else
pub record HoldsStates (width number : ℕ) (s : SlabState) : Type 0 where
  pub size : s.size ≡ width
  pub chunks : length s.chunks ≡ number
  pub alike : AreOfSize (slab_block (rounded width)) s.blocks
  pub held : total s.blocks ≡ state_blocks width number

-- the contexts of a table hold what is counted for its keys, and nothing else is held below the parent
pub record HoldsKeys {H : Type 0} (t : TableState H) (tree : TreeState) : Type 0 where
  pub alone : held_below tree t.parent ≡ held_in t tree
  pub in_buckets : IsSetWith (HoldsArray t.array (length t.slots)) (context_at tree t.buckets)
  pub in_keys : IsRunWith (HoldsKeyBlocks (keys_in t tree)) (context_at tree t.keys)
  pub in_states : IsSlabWith (HoldsStates t.width (length t.slots)) (context_at tree t.states)
