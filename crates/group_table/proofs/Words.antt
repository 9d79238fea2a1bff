-- The words that the proofs cite, of this crate and of those below, in one place to import them from.
pub use Rattle.aggregation_cost.specs.Space.{Blocks, Key, array_block, bucket_blocks, buckets, fits, grown, held_after, key_blocks}
pub use Rattle.aggregation_cost.specs.Space.{key_room, need, quotient_up, state_blocks}
pub use Rattle.chunk_contexts.specs.Chunks.{Keeps, bytes_of, is_live}
unfoldable pub use Rattle.chunk_contexts.specs.Rooms.{class_of, room_of, rooms}
pub use Rattle.chunk_contexts.specs.Rooms.{over_most, rounded}
pub use Rattle.chunk_contexts.specs.Set.{SetState, dedicated, growth_by, new_set, set_freed, set_growth, set_reset, set_room, set_taken}
pub use Rattle.chunk_contexts.specs.Set.{set_wrote, taken_by}
pub use Rattle.chunk_contexts.specs.declared.rooms.TheConstants.{LARGEST, MOST}
pub use Rattle.chunk_layout.specs.Contents.{ChunkContents, has, is_at, only, contents_at, place_of, rewritten, same_place, size_at, total}
pub use Rattle.chunk_layout.specs.Contents.{with_block, with_bytes_of}
pub use Rattle.chunk_layout.specs.declared.place.ChunkName.{ChunkName}
pub use Rattle.chunk_layout.specs.declared.place.Place.{Place}
pub use Rattle.context_tree.specs.Contexts.{IsCounted, blocks_of, chunk_bytes, chunks_of, growth_of, has_chunk, held_by, kind_refusal}
pub use Rattle.context_tree.specs.Contexts.{new_context, no_context, reset_context, room_in, with_bytes, with_chunk, without_chunk}
unfoldable pub use Rattle.context_tree.specs.Links.{is_below, leads_to}
pub use Rattle.context_tree.specs.Links.{IsForest, cleared, is_true_of, is_under, parent_of, stamp_of}
pub use Rattle.context_tree.specs.Tree.{IsNotMade, IsWhole, TreeState, context_at, deleted, has_stamp, held_below, held_from, is_there}
pub use Rattle.context_tree.specs.Tree.{reset, with_context, without_slots}
pub use Rattle.context_tree.specs.declared.context.Context.{Context}
pub use Rattle.context_tree.specs.declared.context.Context.TheVariants.{AllocSet, Bump, Slab}
pub use Rattle.context_tree.specs.declared.links.ContextId.{ContextId}
pub use Rattle.context_tree.specs.declared.links.Link.{Link}
pub use Rattle.group_table.specs.Arrays.{HasNext, IsArrayAt, IsNext, IsRewritten, IsSpare, OnlyIn, bytes_at, count_of, with_next, with_slot}
pub use Rattle.group_table.specs.Arrays.{with_spare}
unfoldable pub use Rattle.group_table.specs.Buckets.{bucket_at, bucket_in, number_at}
pub use Rattle.group_table.specs.Buckets.{IsHashOf, name_at}
pub use Rattle.group_table.specs.Children.{AreMade, AreNew, IsAsBefore, IsCleared, IsNew, IsRefusedOf, IsSameBySlot}
pub use Rattle.group_table.specs.Index.{HasAll, Holds, IsFreeFor, IsIndex, IsPath, Puts, passes, start_of}
pub use Rattle.group_table.specs.Search.{Finds, HasNone, IsOther, Meets, Tells}
pub use Rattle.group_table.specs.Lookups.{IsMet, IsVacancy}
pub use Rattle.group_table.specs.Space.{AreArraysHeld, AreOfSize, HoldsArray, HoldsKeyBlocks, HoldsKeys, HoldsNext, HoldsStates}
pub use Rattle.group_table.specs.Space.{IsArrayHeld, IsRunWith, IsSlabWith, key_of, keys_in}
pub use Rattle.group_table.specs.Standing.{AreGroups, HasArray, HasFirst, HasSpace, IsApart, IsArrayIn, IsArrayOf, IsBesideFirst, IsBump}
pub use Rattle.group_table.specs.Standing.{IsChild, IsFirst, IsPlaced, IsSameFor, IsSetWith, IsSlabOf, IsStanding, IsTableIn, KeepsBeside}
pub use Rattle.group_table.specs.Standing.{Stands, bucket_of, slot_of}
pub use Rattle.group_table.specs.Table.{HasNo, IsEmptied, IsSameBut, IsSlot, Names, TableState, array_growth, buckets_for, buckets_in}
pub use Rattle.group_table.specs.Table.{group_growth, group_in, groups, held_in, key_in, most_buckets, state_in, without_groups}
pub use Rattle.group_table.specs.declared.bucket.Bucket.{Bucket}
pub use Rattle.group_table.specs.declared.table.Slot.{Slot}
