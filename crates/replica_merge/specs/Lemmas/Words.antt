-- The words that the proofs cite, of this crate and of those below, in one place to import them from.
pub use Rattle.batch_reader.specs.Rows.{packings}
pub use Rattle.group_runs.specs.Standing.{AreGroups, IsRun, run_bytes}
pub use Rattle.grouping_model.specs.Datum.{Row, row_cmp}
pub use Rattle.grouping_model.specs.Grouping.{Group, part}
pub use Rattle.grouping_model.specs.Query.{Query}
pub use Rattle.grouping_model.specs.Replies.{InLimits, KnownOrigin, known_list, of_origin, reply_of}
pub use Rattle.grouping_model.specs.World.{IsWorld, Knowledge, World, batch_cmp, batch_rows, count_up, early, known_rows, knows, learn}
pub use Rattle.grouping_model.specs.World.{origin_rows, origins, prefix, rows_upto, union}
pub use Rattle.grouping_model.specs.declared.limits.TheConstants.{LAST_NUMBER, LAST_ORIGIN, MAX_ROWS}
pub use Rattle.hash_agg.specs.Counting.{AreCounted, setting_by}
pub use Rattle.having_filter.specs.Meaning.{meaning}
pub use Rattle.list_laws.specs.Each.{each_behind, each_both, each_front, each_weaker}
pub use Rattle.origin_prefix.specs.Fitting.{FitsOrigin}
pub use Rattle.origin_prefix.specs.Joins.{DisagreeAt, Includes, JoinIsCounted, JoinTells, Joining, Joins, PartsDisagree, StaysJoined}
pub use Rattle.origin_prefix.specs.Joins.{either}
pub use Rattle.origin_prefix.specs.Parts.{BatchTells, Delivers, Delivery, Disagrees, IsEarly, IsPartOf, Part, aggregations_on, empty}
pub use Rattle.origin_prefix.specs.Parts.{is_nothing}
pub use Rattle.origin_prefix.specs.Parts.{rows_at, tells}
pub use Rattle.origin_prefix.specs.declared.error.JoinError.TheVariants.{OriginDisagrees, Spill}
pub use Rattle.packed_rows.specs.Columns.{kinds}
pub use Rattle.query_checks.specs.Checks.{Checked}
pub use Rattle.summary_codec.specs.Reading.{IsSaved, IsSummary, IsSummaryIn}
pub use Rattle.summary_codec.specs.WorldFile.{world_file, world_file_in, world_part}
pub use Rattle.summary_codec.specs.declared.version.Version.TheVariants.{Second}
pub use Rattle.replica_merge.specs.Counting.{JoinsInOrder, MergeIsCounted, MergeRan}
pub use Rattle.replica_merge.specs.Results.{DeliversBatch, IsLoaded, JoinsHeld, JoinsReplicas, LoadsReplica, MergesHeld, MergesReplicas}
pub use Rattle.replica_merge.specs.Replicas.{AreHeldParts, AsideAt, DeliversAt, DisagreeSomewhere, Fits, Held, IsFirstRefused, IsHeldPart}
pub use Rattle.replica_merge.specs.Replicas.{IsPlace, StandsAside, taken_back}
pub use Rattle.replica_merge.specs.Replicas.{JoinedAside, JoinsAt, MergeTells, MergesParts, MergesIn, Parts, RefusesAt, batches_of, counted}
pub use Rattle.replica_merge.specs.Replicas.{counted_part, filled, known_of, known_part, part_at, part_of, told}
pub use Rattle.replica_merge.specs.Unions.{IsAnswerOf, IsRunAlone, IsShown, IsUnion, brought_by}
