-- The words that the lemmas cite, of this crate and of those below, in one place to import them from.
pub use Rattle.agg_protocol.specs.States.{IsState, rows_of, shape_of, width_of}
pub use Rattle.batch_reader.specs.Rows.{packings}
pub use Rattle.group_parser.specs.Parsing.{Accepts, asked_checked, asked_in, parsing, query_checked}
pub use Rattle.group_runs.specs.Runs.{Entry, Rises, packed_keys}
pub use Rattle.group_runs.specs.Standing.{AreGroups, IsGroupOf, run_bytes}
pub use Rattle.grouping_model.specs.Datum.{Bigint, Bigint_kind, Boolean, Boolean_kind, Datum, HasKind, HasKinds, Kind, Null, Row, Text}
pub use Rattle.grouping_model.specs.Datum.{Text_kind, row_cmp, same_row}
pub use Rattle.grouping_model.specs.Grouping.{Group, argument, arguments, column_of, key_of, keys, partials, selected}
pub use Rattle.grouping_model.specs.Query.{Aggregate, Query}
pub use Rattle.grouping_model.specs.declared.limits.TheConstants.{LAST_NUMBER, LAST_ORIGIN, MAX_COLUMNS, MAX_ROWS}
pub use Rattle.having_filter.specs.Kept.{IsCheckedQuery, IsWellFormed, TakesRows, by_names}
pub use Rattle.grouping_model.specs.Parts.{key_kinds}
pub use Rattle.having_filter.specs.Meaning.{meaning}
pub use Rattle.list_laws.specs.Each.{each_append, each_weaker}
pub use Rattle.origin_prefix.specs.Held.{AreHeldParts, IsHeldPart, Parts}
pub use Rattle.origin_prefix.specs.Parts.{IsEarly, IsPartOf, Part}
pub use Rattle.packed_rows.specs.Columns.{AreColumns, Column, IsColumnName, column_text, kind_text, kinds, names, printed}
pub use Rattle.packed_rows.specs.Packing.{IsPacking, packing, value_packing}
unfoldable pub use Rattle.query_checks.specs.Checks.{checked}
pub use Rattle.query_checks.specs.Checks.{Checked, all_of, are_plain, are_shallow, checked_places, has_columns, has_too_many}
pub use Rattle.query_checks.specs.Checks.{is_grouped, is_shallow, kinds_fit, placed, with_arrangement}
pub use Rattle.query_checks.specs.Arrangement.{checked_arrangement}
pub use Rattle.query_checks.specs.Spelling.{spelling}
unfoldable pub use Rattle.summary_codec.specs.File.{part_bytes}
pub use Rattle.summary_codec.specs.File.{batch_bytes, body_bytes, file_bytes, file_in, sized_bytes}
unfoldable pub use Rattle.summary_codec.specs.Reading.{batch, batches, body, contents, heading, number, number_within, opened, parts, query}
unfoldable pub use Rattle.summary_codec.specs.Reading.{rest, row, schema, sized, summary, text}
pub use Rattle.summary_codec.specs.Reading.{AreStateBytes, HasFault, IsCutShort, IsNext, IsSaved, IsSummary, IsSummaryIn}
pub use Rattle.summary_codec.specs.Reading.{MayFollow, Outcome, Reader, both, columns_in, done, each, ended, must, query_in, states_width}
pub use Rattle.summary_codec.specs.Reading.{taken}
pub use Rattle.summary_codec.specs.Versions.{AreWithin, IsBatchWithin, IsWithin, last_number, most_batch_rows, opening}
pub use Rattle.summary_codec.specs.declared.error.SummaryError.{SummaryError}
pub use Rattle.summary_codec.specs.declared.version.Version.{Version}
pub use Rattle.summary_codec.specs.declared.version.Version.TheVariants.{First, Second}
