-- A tree of contexts as its users see it.
use Rattle.std.specs.Prelude.{◌≡◌, ℕ, ◌+◌, ◌^◌, ◌<◌, ◌≤◌, ◌==◌, Bool, true, false, cond, List, [], ◌∷◌, Option, Some, None, length, get_or}
use Rattle.std.specs.Prelude.{slice_set}
use Rattle.chunk_contexts.specs.declared.error.ContextError.{ContextError}
use Rattle.chunk_contexts.specs.declared.error.ContextError.TheVariants.{NoMemory}
use Rattle.context_tree.specs.Contexts.{no_context, new_context, reset_context, held_by}
use Rattle.context_tree.specs.Links.{stamp_of, is_below, is_under, cleared, placed, IsForest}
use Rattle.context_tree.specs.declared.context.Context.{Context}
use Rattle.context_tree.specs.declared.error.TreeError.{TreeError}
use Rattle.context_tree.specs.declared.error.TreeError.TheVariants as error
use Rattle.context_tree.specs.declared.kind.Kind.{Kind}
use Rattle.context_tree.specs.declared.links.ContextId.{ContextId}
use Rattle.context_tree.specs.declared.links.Link.{Link}

-- the links of the contexts by their slots; the contexts, with an empty one in each slot that is free; and the stamp that
-- was given out last
pub record TreeState : Type 0 where
  pub links : List (Option Link)
  pub contexts : List Context
  pub last : ℕ

-- no stamp is above the last one; and a slot that is free has an empty context
abbrev pub Stamped : List (Option Link) → ℕ → Type 0
Stamped ls last = (slot : ℕ) → (link : Link) → get_or ls slot None ≡ Some link → link.stamp ≤ last

abbrev pub Emptied : List (Option Link) → List Context → Type 0
Emptied ls cs = (slot : ℕ) → get_or ls slot None ≡ None → get_or cs slot no_context ≡ no_context

-- the bytes of the blocks of all contexts, which stay below 2^63. (Our own.)
abbrev pub held_by_all : List Context → ℕ
held_by_all [] = 0
held_by_all (c ∷ cs) = held_by c + held_by_all cs

abbrev pub IsBounded : List Context → Type 0
IsBounded cs = held_by_all cs < 2 ^ 63

-- what holds of each tree: the links are those of one tree, and there is a context for each
pub record IsWhole (t : TreeState) : Type 0 where
  pub forest : IsForest t.links
  pub long : length t.contexts ≡ length t.links
  pub stamps : Stamped t.links t.last
  pub empty : Emptied t.links t.contexts

-- a tree of a root alone, in slot 0
abbrev pub new_tree : ℕ → TreeState
new_tree stamp = record { links = Some (record { stamp = stamp; parent = None }) ∷ []; contexts = no_context ∷ []; last = stamp }

abbrev pub has_stamp : Option Link → ℕ → Bool
has_stamp None stamp = false
has_stamp (Some link) stamp = link.stamp == stamp

-- whether there is a context of this id: in its slot, and made with its stamp
abbrev pub is_there : TreeState → ContextId → Bool
is_there t id = has_stamp (get_or t.links id.slot None) id.stamp

-- the context of an id that is there
abbrev pub context_at : TreeState → ContextId → Context
context_at t id = get_or t.contexts id.slot no_context

-- the id of the context below which one was made, which the root has not
abbrev pub id_in : List (Option Link) → Option ℕ → Option ContextId
id_in ls None = None
id_in ls (Some slot) = Some (record { slot = slot; stamp = stamp_of (get_or ls slot None) })

abbrev pub parent_id : List (Option Link) → Option Link → Option ContextId
parent_id ls None = None
parent_id ls (Some link) = id_in ls link.parent

-- with another context in the place of the one of an id
abbrev pub with_context : TreeState → ContextId → Context → TreeState
with_context t id c = record { links = t.links; contexts = slice_set t.contexts id.slot c; last = t.last }

-- with a new context, made below another
abbrev pub with_new : TreeState → ContextId → Kind → ContextId → TreeState
with_new t parent kind id = record {
  links = placed t.links id.slot (Some (record { stamp = id.stamp; parent = Some parent.slot }));
  contexts = placed t.contexts id.slot (new_context kind);
  last = id.stamp;
}

-- without the contexts that a test finds
abbrev pub without_slots : TreeState → (ℕ → Bool) → TreeState
without_slots t gone = record { links = cleared gone None 0 t.links; contexts = cleared gone no_context 0 t.contexts; last = t.last }

-- without a context and its descendants; and without these alone, and without the chunks of the context
abbrev pub deleted : TreeState → ContextId → TreeState
deleted t id = without_slots t (is_below t.links id.slot)

abbrev pub reset : TreeState → ContextId → TreeState
reset t id = with_context (without_slots t (is_under t.links id.slot)) id (reset_context (context_at t id))

-- the bytes of the blocks of the context in a slot and of its descendants, the first of the contexts being in this slot
abbrev pub held_from : List (Option Link) → ℕ → ℕ → List Context → ℕ
held_from ls above slot [] = 0
held_from ls above slot (c ∷ cs) = cond (is_below ls above slot) (held_by c) 0 + held_from ls above (slot + 1) cs

abbrev pub held_below : TreeState → ContextId → ℕ
held_below t id = held_from t.links id.slot 0 t.contexts

-- why a call is refused: there is no such context, or the context refuses it
abbrev pub IsRefusedBy : Bool → (ContextError → Type 0) → TreeError → Type 0
IsRefusedBy false P e = e ≡ error.NoSuchContext
IsRefusedBy true P e = (own : ContextError) × (e ≡ error.Context own) × P own

-- why no context is deleted: there is none of this id, or it is the root
abbrev pub IsKept : Bool → ℕ → TreeError → Type 0
IsKept false slot e = e ≡ error.NoSuchContext
IsKept true slot e = (slot ≡ 0) × (e ≡ error.RootKept)

-- why no context is made below one that is there or not, with stamps left or not: the kind is refused, or there is no memory
abbrev pub IsNotMade : Bool → Bool → Option ContextError → TreeError → Type 0
IsNotMade false spent refusal e = e ≡ error.NoSuchContext
IsNotMade true true refusal e = e ≡ error.StampsSpent
IsNotMade true false (Some own) e = e ≡ error.Context own
IsNotMade true false None e = e ≡ error.Context NoMemory
