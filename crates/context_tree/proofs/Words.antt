-- The words that the proofs cite, of this crate and of those below, in one place to import them from.
pub use Rattle.chunk_contexts.specs.Chunks.{Adds, IsRefused, IsResizeRefused, IsResized, Keeps, KeepsOthers, chunk_of}
pub use Rattle.chunk_layout.specs.Contents.{contents_at, place_of, resized, without}
pub use Rattle.list_laws.specs.Outcomes.{always_err}
pub use Rattle.context_tree.specs.Contexts.{blocks_of, can_free, chunk_bytes, chunks_of, growth_of, has_chunk, held_by, may_lie_in}
pub use Rattle.context_tree.specs.Contexts.{new_context, no_context, refusal_of, room_in, with_bytes, with_chunk, with_resized}
pub use Rattle.context_tree.specs.Contexts.{without_chunk}
pub use Rattle.context_tree.specs.Links.{AreFree, IsForest, IsFull, IsMadeBelow, cleared, is_below, is_under, placed, stamp_of}
pub use Rattle.context_tree.specs.Tree.{Emptied, IsBounded, IsNotMade, IsRefusedBy, Stamped, TreeState, context_at, deleted, has_stamp}
pub use Rattle.context_tree.specs.Tree.{held_below, held_by_all, held_from, is_there, with_context, with_new, without_slots}
pub use Rattle.context_tree.specs.declared.context.Context.{Context}
pub use Rattle.context_tree.specs.declared.links.Link.{Link}
