-- What the program's commands make of files. A batch file means what a feed of its batch means in a script. A summary file means what the
-- replica means that it is of. All of this is our own.
use Rattle.std.specs.Prelude.{Bool, false, ℕ, ◌≡◌, ◌<◌, ◌≤◌, ◌⊎◌, List, [], length, Option, Some, None, IsSomeAnd}
use Rattle.grouping_model.specs.Datum.{Kind}
use Rattle.grouping_model.specs.Query.{Query}
use Rattle.grouping_model.specs.World.{knows}
use Rattle.grouping_model.specs.declared.delivered.Delivered.{Delivered}
use Rattle.grouping_model.specs.declared.limits.TheConstants.{MAX_INPUT_LEN}
use Rattle.packed_rows.specs.Columns.{Column, kinds, IsSchemaText}
use Rattle.aggregation_cost.specs.Space.{Setting}
use Rattle.hash_agg.specs.Counting.{AreCounted}
use Rattle.hash_agg.specs.declared.work.Work.{Work}
use Rattle.origin_prefix.specs.Parts.{Disagrees, aggregations_on}
use Rattle.group_parser.specs.Parsing.{Accepts}
use Rattle.batch_reader.specs.File.{BatchFile}
use Rattle.batch_reader.specs.Rows.{packings}
use Rattle.batch_reader.specs.declared.batch.Batch as packed
use Rattle.batch_reader.specs.declared.error.BatchError.TheVariants as batch
use Rattle.summary_codec.specs.Reading.{IsSummary, IsSaved, HasFault}
use Rattle.replica_merge.specs.Replicas.{Held, part_of, told, DeliversAt}
use Rattle.replica_merge.specs.Counting.{MergeIsCounted}
use Rattle.refusals.specs.Batches.{Fed, IsBatch, IsRead, IsNoQuery, IsNoBatch, Takes, IsOtherBatch}
use Rattle.refusals.specs.Refusals.{IsApart}
use Rattle.refusals.specs.declared.error.RunError.TheVariants.{InputTooLong}
use Rattle.refusals.specs.declared.refusal.Refusal.{Refusal}
use Rattle.refusals.specs.declared.refusal.Refusal.TheVariants.{NoMemory, BadSchema, Batch, Summary, Run}

-- a replica that knows nothing, of a query over columns, as two texts say them
pub record IsNew (columns query : List ℕ) (held : Held) : Type 0 where
  pub columns_are : IsSchemaText columns held.query.columns
  pub query_is : Accepts held.query.columns query held.query
  pub empty : held.parts ≡ []

-- why two texts make no replica: the first tells no columns, or else the second is not a query over them
abbrev pub IsNotNew : (columns query : List ℕ) → Refusal → Type 0
IsNotNew columns query BadSchema = (found : List Column) → ¬ (IsSchemaText columns found)
IsNotNew columns query why = (found : List Column) × IsSchemaText columns found × IsNoQuery found query why

-- the batch of a batch file was read of its fields and records
abbrev pub IsReadOf : List Kind → Option BatchFile → packed.Batch → Type 0
IsReadOf kinds file batch = IsSomeAnd file (λ read. IsRead kinds read.head.origin read.head.number read.head.told read.records batch)

-- a replica takes the batch of a batch file, over a tape disk that may be honest
abbrev pub TakesFile : (honest : Bool) → Option BatchFile → (old new : Held) → Delivered → Type 0
TakesFile honest file old new delivered = IsSomeAnd file (λ read. Takes honest read.head.origin read.head.number read.head.told read.records
    old new delivered)

-- something holds of the origin, the number and the packed rows of a batch file's batch
pub record OfBatch (kinds : List Kind) (read : BatchFile) (holds : ℕ → ℕ → List (List ℕ) → Type 0) : Type 0 where
  pub fed : Fed
  pub is_batch : IsBatch kinds read.head.origin read.head.number read.head.told read.records fed
  pub is_so : holds fed.origin fed.number (packings fed.rows)

abbrev pub OfBatchFile : Held → Option BatchFile → (ℕ → ℕ → List (List ℕ) → Type 0) → Type 0
OfBatchFile held file holds = IsSomeAnd file (λ read. OfBatch (kinds held.query.columns) read holds)

-- what becomes of the parts of a replica to which the batch of a file is delivered
abbrev pub DeliversFile : (honest : Bool) → Option BatchFile → (old new : Held) → Delivered → Type 0
DeliversFile honest file old new delivered = OfBatchFile old file (λ origin number packed. DeliversAt honest old.query old.parts origin
    number packed new.parts delivered)

-- the number of a file's batch is not known yet
abbrev pub IsNewFile : Option BatchFile → Held → Type 0
IsNewFile file held = OfBatchFile held file (λ origin number packed. knows (told held.parts) (origin, number) ≡ false)

-- what feeding a batch file takes was counted: the aggregation of its batch and of the early ones that follow it
abbrev pub FeedIsCounted : Option BatchFile → Held → Query → Setting → Work → ℕ → Work → ℕ → Type 0
FeedIsCounted file held query setting old writes new written = OfBatchFile held file (λ origin number packed.
    AreCounted (aggregations_on (part_of held.parts origin) number packed) query setting old writes new written)

-- the batch of a file, which is of this origin and number, and the early one of its number have different rows; they have not
abbrev pub FileDisagrees : Option BatchFile → Held → ℕ → Option ℕ → Type 0
FileDisagrees file held of at = OfBatchFile held file (λ origin number packed. (of ≡ origin) × (at ≡ Some number)
    × Disagrees (part_of held.parts origin) number packed)

abbrev pub FileAgrees : Option BatchFile → Held → Type 0
FileAgrees file held = OfBatchFile held file (λ origin number packed. ¬ (Disagrees (part_of held.parts origin) number packed))

-- why a file is not a batch file of these columns: its head is bad, or else it is refused as a feed is
abbrev pub IsNoBatchFile : List Kind → Option BatchFile → Refusal → Type 0
IsNoBatchFile kinds None why = why ≡ Batch batch.BadBatchHead
IsNoBatchFile kinds (Some read) why = IsNoBatch kinds read.head.origin read.head.number read.head.told read.records why

-- the batch of a file disagrees with what a replica holds: no world that this fits has the batch
abbrev pub IsOtherFile : Option BatchFile → Held → Type 0
IsOtherFile file held = IsSomeAnd file (λ read. IsOtherBatch read.head.origin read.head.number read.head.told read.records held)

-- why bytes are not a summary file: their first fault, unless memory ran out
abbrev pub IsNoSummary : List ℕ → Refusal → Type 0
IsNoSummary file NoMemory = Unit {0}
IsNoSummary file (Summary error) = HasFault file error
IsNoSummary file why = ⊥

-- what merging the replica of a summary file takes was counted
abbrev pub FileMergeIsCounted : List ℕ → Held → Query → Setting → Work → ℕ → Work → ℕ → Type 0
FileMergeIsCounted file held query setting old writes new written = (other : Held) × IsSummary file other.query other.parts
    × MergeIsCounted held.parts other.parts query setting old writes new written

-- why a file is not merged into a replica: it is not a summary file, or its replica is not merged
abbrev pub IsNotMerged : List ℕ → Held → Refusal → Type 0
IsNotMerged file old why = IsNoSummary file why ⊎ ((other : Held) × IsSummary file other.query other.parts × IsApart old other why)

-- bytes that are written as a summary file, which can be read: those of what is held for a query, and no more than are read
pub record IsReadable (file : List ℕ) : Type 0 where
  pub held : Held
  pub is : IsSaved file held.query held.parts
  pub short : length file ≤ MAX_INPUT_LEN

-- why a replica is not saved, unless memory ran out: its file would be longer than what is read
abbrev pub IsTooLong : Held → Refusal → Type 0
IsTooLong held NoMemory = Unit {0}
IsTooLong held (Run InputTooLong) = (file : List ℕ) × IsSaved file held.query held.parts × (MAX_INPUT_LEN < length file)
IsTooLong held why = ⊥
