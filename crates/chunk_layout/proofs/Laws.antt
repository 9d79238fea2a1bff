-- The laws of tests, lists and chunks that the proofs cite, in one place to import them from.
pub use Rattle.block_memory.specs.CellLaws.{length-zeros}
pub use Rattle.block_memory.specs.Lemmas.CellLemmas.{bytes_of_written, holds_at, holds_by_set_word, holds_by_write, holds_each, holds_kept}
pub use Rattle.block_memory.specs.Lemmas.CellLemmas.{holds_over, holds_part, holds_unique, length-with_bytes, length-word_bytes}
pub use Rattle.block_memory.specs.Lemmas.CellLemmas.{length_over, word_read_back, written_kept, written_of_holds}
pub use Rattle.chunk_layout.specs.FindingLaws.{apart-found, apart-sym, found-place, found-stands, contents-found, place-same, some-header}
pub use Rattle.chunk_layout.specs.FindingLaws.{without-header}
pub use Rattle.chunk_layout.specs.ListLaws.{every_both, every_filter, every_get, every_map, every_passes, every_unmap, every_weaker}
pub use Rattle.chunk_layout.specs.ListLaws.{filter_map_same, first_has, map_same, pairwise_filter, pairwise_through, pairwise_weaker}
pub use Rattle.chunk_layout.specs.NumberLaws.{length-with_block, total-set_none, total-with_block, with_block-here, with_block-other}
pub use Rattle.chunk_layout.specs.ContentsLaws.{has-later, has-without, contents_at-first, contents_at-later, contents_at-without}
pub use Rattle.chunk_layout.specs.ContentsLaws.{same_place-sym}
pub use Rattle.chunk_layout.specs.ContentsLaws.{without-first, without-twice}
pub use Rattle.std.proofs.lemmas.Bool.{cases_eq, cases_lt, cond-false, cond-true, eq-eqb, eqb-false, false≢true, le-ltb, lt-ltb, ne_eqb}
pub use Rattle.std.proofs.lemmas.Bool.{not-true}
pub use Rattle.std.proofs.lemmas.Bool.Decides.{nat_tests}
pub use Rattle.std.proofs.lemmas.Grind.{common_steps}
pub use Rattle.std.proofs.lemmas.List.{drop-take, get_or-append_right, get_or-map, get_or-set_other, get_or-set_same, get_or_append_left}
pub use Rattle.std.proofs.lemmas.List.{get_or_default, get_or_past, get_or_read, length-append, length-drop, length-map, length-replicate}
pub use Rattle.std.proofs.lemmas.List.{length-set, length-take, length-take-le, map-set, nil_from_length, set-get_or, take-append-drop}
pub use Rattle.std.proofs.lemmas.List.{take-take, take_all, take_at}
