-- The words of blocks, chunks and marks that the proofs share, in one place to import them from.
pub use Rattle.block_memory.specs.Cells.{Cells, Holds, IsWritten, with_bytes, zeros}
pub use Rattle.block_memory.specs.Words.{word_bytes}
pub use Rattle.chunk_layout.specs.Every.{Every, Pairwise}
pub use Rattle.chunk_layout.specs.Contents.{AreApart, AreLaid, AreTaken, IsClear, IsInside, Layout, ChunkContents, has, only, outside}
pub use Rattle.chunk_layout.specs.Contents.{contents_at, put_at, resized, rewritten, same_place, size_at, total, with_block, with_bytes_of}
pub use Rattle.chunk_layout.specs.Contents.{with_contents, without}
pub use Rattle.chunk_layout.specs.ChunkHeaders.{Apart, Blocks, IsLayout, Stands, block_at, cells_of, has_header, headed, no_header}
pub use Rattle.chunk_layout.specs.ChunkHeaders.{contents_of}
pub use Rattle.chunk_layout.specs.ChunkHeaders.{poke, read, sizes_of, header_at, header_is_at, header_with, headers_of, without_header}
pub use Rattle.chunk_layout.specs.Vacant.{AreVacant}
pub use Rattle.chunk_layout.specs.declared.layout.ChunkLayout.TheInside.{Inside}
pub use Rattle.chunk_layout.specs.declared.place.Place.{Place}
pub use Rattle.chunk_layout.specs.declared.place.ChunkHeader.{ChunkHeader}
pub use Rattle.std.specs.List.{filter, refill, splice}
pub use Rattle.std.specs.Prelude.{IsSome, IsTrue, is_some, not, option_map, unwrap_or, ◌==◌, ◌||◌}
