-- The words that the proofs cite, of this crate and of those below, in one place to import them from.
pub use Rattle.batch_reader.specs.Rows.{ReadsRows, packings}
pub use Rattle.batch_reader.specs.declared.error.BatchError.{BatchError}
pub use Rattle.group_parser.specs.Parsing.{Accepts, parsing}
pub use Rattle.grouping_model.specs.Datum.{Bigint_kind, Datum, HasKinds, Kind, Row}
pub use Rattle.grouping_model.specs.Replies.{known_list, reply_of}
pub use Rattle.grouping_model.specs.World.{IsWorld, Knowledge, World, batch_rows, count_up, early, knows, learn, nothing, origin_rows}
pub use Rattle.grouping_model.specs.World.{origins, prefix, union}
pub use Rattle.grouping_model.specs.declared.limits.TheConstants.{LAST_NUMBER, LAST_ORIGIN, MAX_ROWS}
pub use Rattle.having_filter.specs.Meaning.{meaning}
pub use Rattle.packed_rows.specs.Columns.{Column, IsSchemaText, kinds, printed}
pub use Rattle.query_checks.specs.Checks.{Checked}
pub use Rattle.replica_merge.specs.Replicas.{Fits, Held, MergeTells, Parts, SameQuery, part_of, told}
pub use Rattle.refusals.specs.Batches.{Fed, IsBatch, IsNoBatch, IsNoQuery, IsOfBatch, IsOtherBatch, IsRead, Takes}
pub use Rattle.refusals.specs.Refusals.{batch_refusal, columns_refusal, limit_out_of_range, merge_refusal, query_refusal, run_error}
pub use Rattle.replies.specs.Text.{answer_text, faults_in, is_refusal, is_tape_fault, known_text, line, said_text}
pub use Rattle.refusals.specs.Names.{refusal_name}
pub use Rattle.refusals.specs.declared.refusal.Refusal.{Refusal}
pub use Rattle.script_commands.specs.Commands.{Command, command_at, commands_of, owned_by, request_of}
pub use Rattle.script_io.specs.Records.{Record}
pub use Rattle.tape_disks.specs.Disk.{DiskFrame}
pub use Rattle.script_machine.specs.Agreement.{AreAmong, ColumnsOf, FeedsAmong, FeedsOf, IsOfColumns, KnowTheSame, OneBatchEach}
pub use Rattle.script_machine.specs.Agreement.{PrintTheSame, after_all, world_of}
pub use Rattle.script_machine.specs.Disagreements.{FeedAlike, FeedApart, FeedFails, IsHeldAt, TellsDisagreement}
pub use Rattle.hash_agg.specs.Counting.{no_work}
unfoldable pub use Rattle.script_machine.specs.Executing.{Executed}
pub use Rattle.script_machine.specs.Executing.{AreWritten, Executes, ExecutesAllBut, StopsInLast, Works, WorksThrough, said_texts}
pub use Rattle.script_machine.specs.Joining.{JoinRefused, JoinsNamed, JoinsNames}
pub use Rattle.script_machine.specs.Limits.{FeedWorked, WorksAtLimit, setting_at}
pub use Rattle.script_machine.specs.AnyDisk.{MayReply, Run, As_always, For_damage, For_disagreement, is_fault}
unfoldable pub use Rattle.script_machine.specs.AnyDisk.{AllMayRead}
pub use Rattle.script_machine.specs.Exact.{AreExact, ExactRun, Exactly, TellsWhy}
unfoldable pub use Rattle.script_machine.specs.Machine.{Along}
pub use Rattle.script_machine.specs.Machine.{Agrees, AgreesAt, AgreesWith, FeedAgrees, IsReply, Reads, Refused, State, Step}
pub use Rattle.script_machine.specs.Machine.{As, As_nothing, For_fault, For_memory, As_defined, after, limit_reply, replica_reply, start}
pub use Rattle.script_machine.specs.Machine.{is_refused, uses_tapes, with_replica}
pub use Rattle.script_machine.specs.Text.{file_saved}
pub use Rattle.script_machine.specs.Views.{Answers, AreSaved, Files, FitsWorld, IsFileOf, IsFitting, IsReplicaFile, IsSaid, IsStore}
pub use Rattle.script_machine.specs.Views.{Becomes, KeepsAll, Loads, Makes, Represents, Saves, Steps, Store, TakesFed, TakesIn, Updates}
pub use Rattle.script_machine.specs.Views.{empty, knowledge_of, replica_at, saved_at}
