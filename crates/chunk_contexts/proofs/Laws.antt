-- The laws of tests, lists and chunks that the proofs cite, in one place to import them from.
pub use Rattle.std.proofs.lemmas.Bool.{le-leb, lt-leb, agree_below_at, eqb-true, cases_Bool, cond-false, false≢true, cond-true, and_parts}
pub use Rattle.std.proofs.lemmas.Bool.{true≢false, false_from_ne_true, cases_eq, leb-true, not_from_false, not-true, and_from, eq-eqb}
pub use Rattle.std.proofs.lemmas.Bool.{ne_eqb, cases_lt, le-ltb, agree_below, leb-false, lt-ltb, ltb-true, eqb-false}
pub use Rattle.std.proofs.lemmas.Bool.Decides.{nat_tests}
pub use Rattle.std.proofs.lemmas.List.{get_or-set_same, get_or-set_other, length-set, get_or_past, reverse-append, drop_more, get_or_read}
pub use Rattle.std.proofs.lemmas.Grind.{common_steps}
pub use Rattle.chunk_layout.specs.ListLaws.{every_filter, pairwise_filter, by_cond, every_weaker, every_both, every_passes, first_has}
pub use Rattle.chunk_layout.specs.ListLaws.{first_passes, every_map, filter_map_same}
pub use Rattle.chunk_layout.specs.FindingLaws.{same-place, place-same}
pub use Rattle.chunk_layout.specs.NumberLaws.{length-with_block, total-set_none, with_block-here, total-with_block, with_block-other}
pub use Rattle.chunk_layout.specs.ContentsLaws.{contents_at-first, contents_at-later, has-without, contents_at-without, same_place-sym}
pub use Rattle.chunk_layout.specs.ContentsLaws.{has-first}
pub use Rattle.chunk_layout.specs.ContentsLaws.{without-first, has-later, without-later, without-none, has_not-without}
pub use Rattle.block_memory.specs.CellLaws.{length-zeros}
pub use Rattle.list_laws.specs.Outcomes.{always_err}
