-- The words that the proofs cite, of this crate and of those below, in one place to import them from.
pub use Rattle.agg_library.specs.StateRows.{AllWithin, DenotesAll, initial_partials, partial_after}
pub use Rattle.agg_protocol.specs.Kinds.{function_of, functions_of, kind_shape, kind_width}
pub use Rattle.agg_protocol.specs.States.{Shape, most_rows, rows_of}
pub use Rattle.grouping_model.specs.Aggregates.{Function, Partial, partial}
pub use Rattle.grouping_model.specs.Combining.{combine, combine_all}
pub use Rattle.grouping_model.specs.Datum.{HasKinds, Kind, Row, row_cmp, same_row}
pub use Rattle.grouping_model.specs.Grouping.{Group, argument, arguments, column_of, partials}
pub use Rattle.grouping_model.specs.Parts.{advanced, functions, keys_of, partials_at, key_kinds}
pub use Rattle.grouping_model.specs.Query.{Aggregate, Query}
pub use Rattle.list_laws.specs.Each.{each_append, each_behind, each_front, each_weaker}
pub use Rattle.packed_rows.specs.ConcatenatedRows.{concatenated}
pub use Rattle.group_runs.specs.Adding.{group_added, groups_added, merged, partial_after_row}
pub use Rattle.group_runs.specs.Segments.{AddSegments, AreBefore, AreSegments, ComeInto, IsAmong, replaced, ArePiecesOf, AreCut}
pub use Rattle.group_runs.specs.Segments.{all_pieces, cut_count}
pub use Rattle.group_runs.specs.Places.{AllAbove, AreUpTo, CombinesAt, HasKey, HasKeyAt, HasStatesFor, IsBelow, IsBetween, IsNotBelow}
pub use Rattle.group_runs.specs.Places.{IsPlaceOf}
pub use Rattle.group_runs.specs.Runs.{Entry, LieAs, Rises, packed_keys}
pub use Rattle.group_runs.specs.Standing.{AreGroups, AreStates, StandsFor}
pub use Rattle.group_runs.specs.Steps.{AddsGroup, AddsRun, AddsRunOf, CanAddRun, CombineWith, EachQuery, HasRoomForGroup, HasRoomForRun, HaveRoomForMore}
