-- Laws: what follows for the whole tree from what a call did to one context; nothing here is a definition.
use Rattle.std.proofs.Common.{◌≡◌, ◌≢◌, ℕ, ◌<◌, ◌≤◌, List, ap, ◌∙◌}
use Rattle.std.proofs.lemmas.List.{get_or-set_other}
use Rattle.chunk_layout.specs.Contents.{place_of, resized}
use Rattle.chunk_layout.specs.declared.place.ChunkName.{ChunkName}
use Rattle.context_tree.specs.Contexts.{no_context, with_bytes, with_resized, without_chunk, chunk_bytes}
use Rattle.context_tree.specs.Calls.{OnContext, Allocates, Frees, Resizes, Writes, with_new_chunk, room_at, written}
use Rattle.context_tree.specs.Tree.{TreeState, is_there, context_at, with_context}
use Rattle.context_tree.specs.declared.context.Context.{Context}
use Rattle.context_tree.specs.declared.links.ContextId.{ContextId}

module _ (id : ContextId) (before after : TreeState) where
  -- all other contexts stay as they were, and each id is there as before
  module _ (Does : Context → Context → Type 0) (on : OnContext id before after Does) where
    pub other-kept : (other : ContextId) → other.slot ≢ id.slot → context_at after other ≡ context_at before other
    other-kept other differ = ap (λ (t : TreeState). context_at t other) on.rest
        ∙ get_or-set_other before.contexts id.slot other.slot (context_at after id) no_context differ

    pub there-kept : (other : ContextId) → is_there after other ≡ is_there before other
    there-kept other = ap (λ (t : TreeState). is_there t other) on.rest

    -- where the context becomes c, the tree is the one with c in its place
    pub tree-with : (c : Context) → context_at after id ≡ c → after ≡ with_context before id c
    tree-with c is = on.rest ∙ ap (with_context before id) is

  -- the tree after each call, as a function of the tree before and of the name that was answered
  pub allocated : (n : ℕ) (bytes : List ℕ) (name : ChunkName) → OnContext id before after (Allocates n bytes name)
      → after ≡ with_context before id (with_new_chunk (context_at before id) n bytes name)
  allocated n bytes name on = tree-with (Allocates n bytes name) on (with_new_chunk (context_at before id) n bytes name) on.does.space

  pub freed : (name : ChunkName) → OnContext id before after (Frees name)
      → after ≡ with_context before id (without_chunk (context_at before id) (place_of name))
  freed name on = tree-with (Frees name) on (without_chunk (context_at before id) (place_of name)) on.does.space

  pub resized-here : (name : ChunkName) (n : ℕ) (new : ChunkName) → OnContext id before after (Resizes name n new)
      → n ≤ room_at (context_at before id) name
      → after ≡ with_context before id (with_resized (context_at before id) (place_of name)
      (resized (chunk_bytes (context_at before id) name) n))
  resized-here name n new on room = on.rest ∙ ap (with_context before id) (on.does.stays room)

  pub resized-away : (name : ChunkName) (n : ℕ) (new : ChunkName) → OnContext id before after (Resizes name n new)
      → room_at (context_at before id) name < n
      → after ≡ with_context before id (without_chunk (with_new_chunk (context_at before id) n
      (resized (chunk_bytes (context_at before id) name) n) new) (place_of name))
  resized-away name n new on more = on.rest ∙ ap (with_context before id) (on.does.moves more).space

  pub written-over : (name : ChunkName) (at : ℕ) (bytes : List ℕ) → OnContext id before after (Writes name at bytes)
      → after ≡ with_context before id (with_bytes (context_at before id) (place_of name)
      (written (chunk_bytes (context_at before id) name) at bytes))
  written-over name at bytes on = on.rest ∙ ap (with_context before id) on.does.space
