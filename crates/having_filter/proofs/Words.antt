-- The words that the proofs cite, of this crate and of those below, in one place to import them from.
pub use Rattle.agg_protocol.specs.Kinds.{function_of}
pub use Rattle.agg_protocol.specs.Results.{outcome_of}
pub use Rattle.grouping_model.specs.Aggregates.{Function, Outcome, Plain}
pub use Rattle.grouping_model.specs.Condition.{At, Condition, is_met, value_of}
pub use Rattle.grouping_model.specs.Datum.{Bigint_kind, Boolean_kind, Datum, Kind, Text_kind}
pub use Rattle.grouping_model.specs.Order.{Term, by_term, comes_before, ordered, terms_cmp}
pub use Rattle.grouping_model.specs.Query.{Aggregate}
pub use Rattle.packed_rows.specs.Columns.{AreColumns, kinds, printed}
pub use Rattle.packed_rows.specs.ConcatenatedRows.{LieAs}
pub use Rattle.packed_rows.specs.View.{kind_of, kinds_of, row_of}
pub use Rattle.query_checks.specs.Calls.{calls_of, distinct_calls}
unfoldable pub use Rattle.query_checks.specs.Checks.{checked_places}
pub use Rattle.query_checks.specs.Checks.{Checked, PassesFirst, are_plain, checked, condition_fits, has_columns, is_boolean, is_column}
pub use Rattle.query_checks.specs.Checks.{is_grouped, kind_of_form, kinds_agree, kinds_fit, operands_fit, place, placed, takes_column}
pub use Rattle.query_checks.specs.Checks.{takes_one, takes_two, with_arrangement}
pub use Rattle.query_checks.specs.Forms.{Binary, Binary_operator, Call, Call_where, Comparing, Conjunction, Disjunction, Form, Literal}
pub use Rattle.query_checks.specs.Forms.{Negation, Testing, Unary, Unary_operator, Written, call_form, form_of, item_form, items_of}
pub use Rattle.query_checks.specs.Forms.{map_form, map_reads, places_of, with_filter}
unfoldable pub use Rattle.query_checks.specs.Arrangement.{checked_arrangement}
pub use Rattle.query_checks.specs.Arrangement.{arrangement_held, arrangement_of, asked_of}
pub use Rattle.query_checks.specs.Order.{Asked}
pub use Rattle.query_checks.specs.Parts.{checked_of, written_of_parts}
pub use Rattle.having_filter.specs.Answers.{AllLieIn, Grows, IsPart, LiesIn, outcome_in, outcomes_in}
pub use Rattle.having_filter.specs.Kept.{IsCheckedQuery, by_names, label_of, written_by_names}
pub use Rattle.grouping_model.specs.Parts.{key_kinds}
pub use Rattle.having_filter.specs.Meaning.{aggregate_of, binary_of, column_leaf, condition_by, group_condition, meaning, order_term}
pub use Rattle.having_filter.specs.Meaning.{place_in, row_condition, source_of_form, unary_of}
pub use Rattle.having_filter.specs.Plans.{IsKept, PlansFor, by_sources, source_leaf, source_of}
