-- The words that the proofs cite, of this crate and of those below, in one place to import them from.
pub use Rattle.list_laws.specs.Each.{each_append, each_behind, each_front, each_weaker}
pub use Rattle.spill_tapes.specs.Records.{Record}
pub use Rattle.spill_tapes.specs.Tape.{Gives, is_in}
pub use Rattle.spill_tapes.specs.Tapes.{IsTape, KeepsOthers, TapesState, is_open, is_read, is_written, phase_of, written_len}
pub use Rattle.spill_tapes.specs.declared.tape.Phase.TheVariants.{Closed, Read, Written}
pub use Rattle.spill_tapes.specs.declared.tape_id.TapeId.{TapeId}
pub use Rattle.spill_partitions.specs.Fields.{fields_of, one_or_none}
pub use Rattle.spill_partitions.specs.Partitions.{PendingPartition, deeper, is_none, left_by, partition_of, partitions_of, on_partition}
pub use Rattle.spill_partitions.specs.Standing.{AreAhead, AreApart, ArePartitions, AreOn, AreRead, AreSpilled}
pub use Rattle.spill_partitions.specs.Standing.{AreWritten, BeginsLast, HasPartitions}
pub use Rattle.spill_partitions.specs.Standing.{HaveRecords, IsNewPartition, PartitionsState, count_of, full_pages}
pub use Rattle.spill_partitions.specs.Standing.{partition_pages, once, pages_of}
pub use Rattle.spill_partitions.specs.Standing.{AreOpen, Closes, HoldOpen, KeepsOwn, OwnsOpen}
pub use Rattle.spill_partitions.specs.Standing.{spilled_number, those_with_records, times, written_pages}
pub use Rattle.spill_partitions.specs.declared.partitions.OnTape.{OnTape}
