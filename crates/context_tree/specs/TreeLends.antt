-- What a tree ends as, once a `&mut` to a chunk of one of its contexts has ended.
use Rattle.std.specs.Prelude.{ℕ, List}
use Rattle.std.specs.Borrow.{Fml, MutBor, Array, Lends, u8}
use Rattle.chunk_layout.specs.Contents.{place_of}
use Rattle.chunk_layout.specs.declared.place.ChunkName.{ChunkName}
use Rattle.context_tree.specs.Contexts.{with_bytes}
use Rattle.context_tree.specs.Tree.{TreeState, context_at, with_context}
use Rattle.context_tree.specs.contracts.tree.Tree.{the_row}
use Rattle.context_tree.specs.declared.links.ContextId.{ContextId}

-- the tree with other bytes in a chunk
abbrev pub with_bytes_in : TreeState → ContextId → ChunkName → List ℕ → TreeState
with_bytes_in t id name bytes = with_context t id (with_bytes (context_at t id) (place_of name) bytes)

abbrev pub lends_chunk : MutBor TreeState → ContextId → ChunkName → MutBor (List ℕ) → Fml
lends_chunk t id name r = Lends the_row (Array u8 0) t r (with_bytes_in t.now id name)
