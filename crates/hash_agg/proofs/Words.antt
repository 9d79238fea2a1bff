-- The words that the proofs cite, of this crate and of those below, in one place to import them from.
pub use Rattle.aggregation_cost.specs.Cost.{Cost, both, cost, cost_from, cost_of, greatest, needs_by, pages_by}
pub use Rattle.aggregation_cost.specs.Passes.{EachFits, is_empty}
pub use Rattle.aggregation_cost.specs.Space.{Key, Setting, fits, fronts, need}
pub use Rattle.group_runs.specs.Adding.{group_added, groups_added, merged, row_added, rows_added}
pub use Rattle.group_runs.specs.Runs.{Entry, Rises, packed_keys}
pub use Rattle.group_runs.specs.Standing.{AreGroups, AreStates, IsRun, StandsFor, states_width}
pub use Rattle.group_runs.specs.Steps.{AddsRun, AreAdvanced, AreCombined, AreWithin, HaveRoomForRow, HaveRoomWithin}
pub use Rattle.group_table.specs.Table.{HasNo, IsSameBut, IsSlot, Names, TableState, group_in, groups, held_in, key_in, state_in}
pub use Rattle.group_table.specs.declared.table.Slot.{Slot}
pub use Rattle.grouping_model.specs.Aggregates.{Function, Partial}
pub use Rattle.grouping_model.specs.Condition.{is_met}
pub use Rattle.grouping_model.specs.Datum.{Bigint, Bigint_kind, Boolean, Boolean_kind, Datum, HasKinds, Kind, Null, Row, Text, Text_kind}
pub use Rattle.grouping_model.specs.Datum.{at_place, row_cmp, same_row}
pub use Rattle.grouping_model.specs.Grouping.{Group, column_of, part, partials, selected}
pub use Rattle.grouping_model.specs.Parts.{advanced, functions, keys_of, partials_at, with_row, key_kinds}
pub use Rattle.grouping_model.specs.Query.{Query}
pub use Rattle.grouping_model.specs.Rising.{distinct, is_among, put}
pub use Rattle.having_filter.specs.Kept.{IsWellFormed}
pub use Rattle.having_filter.specs.Meaning.{meaning}
pub use Rattle.key_hashes.specs.SipHashes.{low_hash}
pub use Rattle.list_laws.specs.Each.{each_append, each_behind, each_front, each_weaker}
pub use Rattle.packed_rows.specs.Packing.{packing, value_packing}
pub use Rattle.packed_rows.specs.ConcatenatedRows.{concatenated}
pub use Rattle.packed_rows.specs.View.{datum_of, row_of}
pub use Rattle.spill_partitions.specs.Errors.{spill_faults}
pub use Rattle.spill_partitions.specs.Partitions.{PendingPartition, deeper, is_none, left_by, partition_of, partitions_of, on_partition}
pub use Rattle.spill_partitions.specs.Standing.{AreOn, AreSpilled, BeginsLast, HasPartitions, KeepsRest}
pub use Rattle.spill_partitions.specs.Standing.{PartitionsState, Spilled, ahead_number}
pub use Rattle.spill_partitions.specs.Standing.{count_of, full_pages, partition_pages, pages_of}
pub use Rattle.spill_partitions.specs.Standing.{spilled_number, waiting_number, written_pages}
pub use Rattle.spill_partitions.specs.declared.error.SpillError.TheVariants.{NoMemory, TapeDamaged, TapeFault}
pub use Rattle.spill_partitions.specs.declared.partitions.OnTape.{OnTape}
unfoldable pub use Rattle.spill_tapes.specs.Records.{header_of}
pub use Rattle.spill_tapes.specs.Records.{Record, record_bytes, tape_bytes}
pub use Rattle.tape_disks.specs.Disk.{DiskFrame}
pub use Rattle.tape_disks.specs.declared.disk.TapeDisk.{Ghosts}
pub use Rattle.hash_agg.specs.Added.{Added, AddedBy, AddedOne, Adds, Are, Continues, CountsWithin, Entries, Finished, HasRoom}
pub use Rattle.hash_agg.specs.Added.{IsDone, IsOver, IsReady, IsSafeRun, IsSelected, IsUnderway, KeepsLater, KeepsPass, MadeAll, MadeFirst}
pub use Rattle.hash_agg.specs.Added.{MadeLater, On_tape, Packed_rows, Refused, RefusedBy, Source, enters, query_of, setting_in, source_of}
pub use Rattle.hash_agg.specs.Inputs.{AllBring, AllGive, AreInputs, AreInputsOf, ArePackings, Brought}
pub use Rattle.hash_agg.specs.Inputs.{Counted, Given, IsAggregate, IsInput, IsRunOver}
pub use Rattle.hash_agg.specs.Inputs.{Of_groups, Of_rows, OneByOne, Packed, all_groups, all_rows, brought, groups_in, packings_in, rows_in}
pub use Rattle.hash_agg.specs.Passes.{AreCosted, AreGroupsBy, AreHeld, AreOfRun, AreOnce, ArePieces, AreRows, AreSafe, Brings, CanRead}
pub use Rattle.hash_agg.specs.Passes.{CanReadPartition, CountUpTo, GroupsState, Holds, IsCosted, IsGroupRecord, IsAbbreviated}
pub use Rattle.hash_agg.specs.Passes.{IsParted, IsPiece}
pub use Rattle.hash_agg.specs.Passes.{IsPlan, IsRowRecord, IsSameTable, AbbreviatedKey, Of_group, Of_row, PassState, Piece, Proceeds, Reads}
pub use Rattle.hash_agg.specs.Passes.{ReadsPartition, Spills, Stands, WritesAt, WritesPages, all_pieces, brings, brought_by, cost_records}
pub use Rattle.hash_agg.specs.Passes.{entries_of, given_pieces, group_record, made_of, pairs, piece_added, piece_key, pieces_added}
pub use Rattle.hash_agg.specs.Passes.{records_of, rows_at, setting_for, setting_of, standing, total, weight}
pub use Rattle.hash_agg.specs.Waiting.{AddsUp, AreLeft, AreListed, AreNone, Costs, IsLeft, IsOneOf, IsWork, Waits, capped, each_at}
pub use Rattle.hash_agg.specs.Waiting.{pass_cost}
pub use Rattle.hash_agg.specs.declared.input.Input.{Input}
pub use Rattle.hash_agg.specs.declared.pass.Pass.{Pass}
pub use Rattle.hash_agg.specs.declared.plan.Plan.{Plan}
pub use Rattle.hash_agg.specs.declared.work.Work.{Work}
