-- What lower crates refuse, as replies name it: their own errors, except out of memory. All of this is our own.
use Rattle.std.specs.Prelude.{◌≡◌, ℕ, Bool, true, false, Option, Some, None, Result, if◌then◌else◌}
use Rattle.hash_agg.specs.Ran.{Ended, ended_by}
use Rattle.packed_rows.specs.declared.error.RowError.{RowError}
use Rattle.packed_rows.specs.declared.error.RowError.TheVariants as row
use Rattle.batch_reader.specs.declared.error.BatchError.{BatchError}
use Rattle.batch_reader.specs.declared.error.BatchError.TheVariants as batch
use Rattle.query_checks.specs.declared.error.QueryError.TheVariants as checks
use Rattle.group_parser.specs.declared.error.ParseError.{ParseError}
use Rattle.group_parser.specs.declared.error.ParseError.TheVariants as parse
use Rattle.summary_codec.specs.declared.error.SummaryError.{SummaryError}
use Rattle.summary_codec.specs.declared.error.SummaryError.TheVariants as summary
use Rattle.spill_partitions.specs.declared.error.SpillError.{SpillError}
use Rattle.spill_partitions.specs.declared.error.SpillError.TheVariants as spill
use Rattle.origin_prefix.specs.declared.error.JoinError.{JoinError}
use Rattle.origin_prefix.specs.declared.error.JoinError.TheVariants as join
use Rattle.origin_prefix.specs.declared.error.RefusedBatch.{RefusedBatch}
use Rattle.replica_merge.specs.Replicas.{Held, MergeTells}
use Rattle.replica_merge.specs.declared.error.MergeError.{MergeError}
use Rattle.replica_merge.specs.declared.error.MergeError.TheVariants as merge
use Rattle.script_io.specs.declared.input.InputError.{InputError}
use Rattle.script_io.specs.declared.input.InputError.TheVariants as input
use Rattle.refusals.specs.declared.error.RunError.{RunError}
use Rattle.refusals.specs.declared.error.RunError.TheVariants as stop
use Rattle.refusals.specs.declared.refusal.Refusal.{Refusal}
use Rattle.refusals.specs.declared.refusal.Refusal.TheVariants.{NoMemory, BadSchema, Limit, Query, Batch, Summary, DifferentQuery}
use Rattle.refusals.specs.declared.refusal.Refusal.TheVariants.{OriginDisagrees, TapeFault, TapeDamaged, Run}

-- a limit out of its range
abbrev pub limit_out_of_range : Refusal
limit_out_of_range = Limit (record {})

-- whether a refusal says that the tape disk failed
abbrev pub tells_fault : Refusal → Bool
tells_fault TapeFault = true
tells_fault refusal = false

-- how often it failed in a call that is refused so
abbrev pub refusal_faults : Refusal → ℕ
refusal_faults why = if tells_fault why then 1 else 0

-- the error of spilling that a refusal names, if it names one
abbrev pub refusal_reason : Refusal → Option SpillError
refusal_reason NoMemory = Some spill.NoMemory
refusal_reason TapeFault = Some spill.TapeFault
refusal_reason TapeDamaged = Some spill.TapeDamaged
refusal_reason why = None

-- how a call ended that may be refused
abbrev pub refusal_ended : {T : Type 0} → Result T Refusal → Ended
refusal_ended result = ended_by refusal_reason result

-- the refusal of columns
abbrev pub columns_refusal : RowError → Refusal
columns_refusal row.NoMemory = NoMemory
columns_refusal error = BadSchema

-- the refusal of a batch
abbrev pub batch_refusal : BatchError → Refusal
batch_refusal batch.NoMemory = NoMemory
batch_refusal error = Batch error

-- the refusal of a query's text
abbrev pub query_refusal : ParseError → Refusal
query_refusal (parse.Query checks.NoMemory) = NoMemory
query_refusal error = Query error

-- the refusal of bytes that are not a summary file
abbrev pub summary_refusal : SummaryError → Refusal
summary_refusal summary.NoMemory = NoMemory
summary_refusal error = Summary error

-- the refusal of an aggregation
abbrev pub spill_refusal : SpillError → Refusal
spill_refusal spill.NoMemory = NoMemory
spill_refusal spill.TapeFault = TapeFault
spill_refusal spill.TapeDamaged = TapeDamaged

-- the refusal of a batch or of a part of an origin
abbrev pub join_refusal : (origin : ℕ) → JoinError → Refusal
join_refusal origin (join.OriginDisagrees number) = OriginDisagrees origin number
join_refusal origin (join.Spill error) = spill_refusal error

-- the refusal of a batch that is handed back
abbrev pub refused_batch : RefusedBatch → Refusal
refused_batch refused = join_refusal refused.batch.origin refused.why

-- the refusal of a replica that another does not take in
abbrev pub merge_refusal : MergeError → Refusal
merge_refusal merge.DifferentQuery = DifferentQuery
merge_refusal merge.NoMemory = NoMemory
merge_refusal (merge.Join origin why) = join_refusal origin why

-- why a replica is not joined with another
abbrev pub IsApart : (own theirs : Held) → Refusal → Type 0
IsApart own theirs why = (error : MergeError) × (why ≡ merge_refusal error) × MergeTells error own theirs

-- why a run stops that could not read its script
abbrev pub run_error : InputError → RunError
run_error input.NoMemory = stop.NoMemory
run_error input.TooLong = stop.InputTooLong
run_error input.ReadFault = stop.ReadFault

-- the refusal of a run that stopped
abbrev pub run_refusal : RunError → Refusal
run_refusal stop.NoMemory = NoMemory
run_refusal error = Run error
