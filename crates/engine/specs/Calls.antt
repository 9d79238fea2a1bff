-- What the calls of a session do, each by what a command does. All of this is our own.
use Rattle.std.specs.Prelude.{◌≡◌, ◌≢◌, ◌<◌, ◌≤◌, ◌⊎◌, ℕ, true, List, length, decimal, Option, Some, Result, Ok, Err}
use Rattle.std.specs.Prelude.{IfErr, OnOk, OnErr, IsUtf8}
use Rattle.aggregation_cost.specs.Space.{Setting}
use Rattle.grouping_model.specs.Answer.{answer}
use Rattle.grouping_model.specs.Query.{Query}
use Rattle.grouping_model.specs.Replies.{known_list}
use Rattle.grouping_model.specs.World.{World}
pub use Rattle.grouping_model.specs.declared.delivered.Delivered.{Delivered}
pub use Rattle.grouping_model.specs.declared.delivered.Delivered.TheVariants.{Folded, Early, Known}
use Rattle.grouping_model.specs.declared.limits.TheConstants.{MAX_INPUT_LEN}
use Rattle.batch_reader.specs.File.{BatchFile, read_file}
use Rattle.key_hashes.specs.Hashes.{fnv_1a}
use Rattle.key_hashes.specs.declared.sip_hash.Seed.{Seed}
use Rattle.having_filter.specs.Kept.{by_names}
use Rattle.having_filter.specs.Meaning.{meaning}
use Rattle.packed_rows.specs.Columns.{printed}
use Rattle.query_checks.specs.Spelling.{spelling}
use Rattle.hash_agg.specs.Counting.{HasGrown, no_work}
use Rattle.hash_agg.specs.Means.{AreMeans}
use Rattle.hash_agg.specs.Passes.{setting_for}
use Rattle.hash_agg.specs.declared.means.TheConstants.{MIN_LIMIT, MAX_LIMIT}
use Rattle.hash_agg.specs.declared.work.Work.{Work}
use Rattle.summary_codec.specs.Reading.{IsSaved}
use Rattle.summary_codec.specs.WorldFile.{world_file}
use Rattle.script_io.specs.Records as csv
use Rattle.replica_merge.specs.Replicas.{told, Fits}
pub use Rattle.replica_merge.specs.Replicas.{Held}
use Rattle.replica_merge.specs.Counting.{MergeIsCounted}
use Rattle.replica_merge.specs.Results.{MergesHeld}
use Rattle.refusals.specs.Refusals.{limit_out_of_range, IsApart}
use Rattle.replies.specs.Printed.{PrintsAnswer}
use Rattle.replies.specs.Text.{origins_text}
use Rattle.table_print.specs.AnswerColumns.{answer_columns}
use Rattle.refusals.specs.declared.refusal.Refusal.TheVariants.{BadCommand, TapeFault, TapeDamaged}
pub use Rattle.refusals.specs.declared.refusal.Refusal.{Refusal}
pub use Rattle.refusals.specs.declared.refusal.Refusal.TheVariants.{NoMemory}
pub use Rattle.replies.specs.declared.showing.Format.{Format}
pub use Rattle.replies.specs.declared.showing.Format.TheVariants.{Csv, Aligned, Tsv, Json}
use Rattle.command_replicas.specs.Commands.{IsNew, IsNotNew, FeedIsCounted, FileMergeIsCounted}
pub use Rattle.command_replicas.specs.Commands.{IsTooLong}
use Rattle.command_replicas.specs.Results.{Feeds, LoadsFile, MergesFile}
use Rattle.engine.specs.Sessions.{SessionState}

-- a limit is out of its range
pub record IsNoLimit (limit : ℕ) (why : Refusal) : Type 0 where
  pub named : why ≡ limit_out_of_range
  pub out : (limit < MIN_LIMIT) ⊎ (MAX_LIMIT < limit)

-- two texts are UTF-8
abbrev pub AreTexts : (columns query : List ℕ) → Type 0
AreTexts columns query = IsUtf8 columns × IsUtf8 query

-- one of two texts is not UTF-8
pub record IsNoText (columns query : List ℕ) (why : Refusal) : Type 0 where
  pub named : why ≡ BadCommand
  pub bytes : ¬ (AreTexts columns query)

-- a session is opened by a limit, which is within its range, and a seed, and has taken nothing yet
pub record OpensWith (limit : ℕ) (seed : Seed) (opened : SessionState) : Type 0 where
  pub within : AreMeans limit
  pub by_limit : opened.limit ≡ limit
  pub by_seed : opened.seed ≡ seed
  pub idle : opened.work ≡ no_work

-- why no session is made of two texts by a limit, in this order
abbrev pub IsNotCreated : (columns query : List ℕ) (limit : ℕ) → Refusal → Type 0
IsNotCreated columns query limit why = IsNoLimit limit why ⊎ (AreMeans limit × IsNoText columns query why)
    ⊎ (AreMeans limit × AreTexts columns query × IsNotNew columns query why)

-- a session of a new replica, or why there is none, unless memory ran out
abbrev pub Creates : (columns query : List ℕ) (limit : ℕ) (seed : Seed) → Result SessionState Refusal → Type 0
Creates columns query limit seed (Ok s) = AreTexts columns query × IsNew columns query s.held × OpensWith limit seed s
Creates columns query limit seed (Err why) = why ≢ NoMemory → IsNotCreated columns query limit why

-- why no session is made of a summary file by a limit, in this order
abbrev pub IsNotOpened : (file : List ℕ) (limit : ℕ) → Refusal → Type 0
IsNotOpened file limit why = IsNoLimit limit why ⊎ (AreMeans limit × LoadsFile file (Err why))

-- a session of the replica that a summary file is of, or why there is none, unless memory ran out
abbrev pub Loads : (file : List ℕ) (limit : ℕ) (seed : Seed) → Result SessionState Refusal → Type 0
Loads file limit seed (Ok s) = LoadsFile file (Ok s.held) × OpensWith limit seed s
Loads file limit seed (Err why) = why ≢ NoMemory → IsNotOpened file limit why

-- a call keeps the limit and the seed of a session
pub record KeepsMeans (old new : SessionState) : Type 0 where
  pub limit : new.limit ≡ old.limit
  pub seed : new.seed ≡ old.seed

-- what the call took was added to the work of a session: aggregations by the session's own limit, over tapes that nothing was written to
-- before. A refused call took nothing. No table of groups holds more bytes of blocks than the limit
pub record RunsByLimit {T : Type 0} (Counts : Query → Setting → Work → ℕ → Work → ℕ → Type 0) (old new : SessionState)
    (result : Result T Refusal) : Type 0 where
  pub counted : OnOk result ((pages : ℕ) × Counts (meaning old.held.query) (setting_for (meaning old.held.query) old.limit fnv_1a) old.work
      0 new.work pages)
  pub uncounted : OnErr result (new.work ≡ old.work)
  pub grown : HasGrown old.limit old.work new.work

-- no refusal of a session is one of tapes, which lie in memory: they neither fail nor give back what was not written to them
abbrev pub IsUntaped : Refusal → Type 0
IsUntaped why = (why ≢ TapeFault) × (why ≢ TapeDamaged)

-- the batch file of an origin, a number and a number of rows, as they are spelled, and the records after them
abbrev pub file_of : (origin number : List ℕ) (count : ℕ) → List csv.Record → Option BatchFile
file_of origin number count records = Some (record { head = record { origin = origin; number = number; told = count }; records = records })

-- the same of numbers, and of the text of rows
abbrev pub batch_of : (origin number count : ℕ) → (rows : List ℕ) → Option BatchFile
batch_of origin number count rows = file_of (decimal origin) (decimal number) count (csv.records_of rows)

-- a batch file is fed as `feed` feeds it, over honest tapes
pub record FeedsSession (file : Option BatchFile) (old new : SessionState) (result : Result Delivered Refusal) : Type 0 where
  pub feeds : Feeds true file old.held new.held result
  pub ran : RunsByLimit (FeedIsCounted file old.held) old new result
  pub means : KeepsMeans old new
  pub untaped : IfErr result IsUntaped

-- the bytes of a batch file are fed
abbrev pub FeedsFile : (bytes : List ℕ) → (old new : SessionState) → Result Delivered Refusal → Type 0
FeedsFile bytes old new result = FeedsSession (read_file bytes) old new result

-- rows are fed, as many records in CSV as declared, as the batch of an origin and a number
abbrev pub FeedsRows : (origin number count : ℕ) → (rows : List ℕ) → (old new : SessionState) → Result Delivered Refusal → Type 0
FeedsRows origin number count rows old new result = FeedsSession (batch_of origin number count rows) old new result

-- a replica is merged as `merge` merges it, over honest tapes, or it is refused and nothing changes
abbrev pub MergesReplica : {T : Type 0} → (old other new : Held) → Result T Refusal → Type 0
MergesReplica old other new (Ok done) = MergesHeld true old other new
MergesReplica old other new (Err why) = (new ≡ old) × IsApart old other why

pub record MergesSession {T : Type 0} (other old new : SessionState) (result : Result T Refusal) : Type 0 where
  pub merges : MergesReplica old.held other.held new.held result
  pub ran : RunsByLimit (MergeIsCounted old.held.parts other.held.parts) old new result
  pub means : KeepsMeans old new
  pub untaped : IfErr result IsUntaped

-- a summary file is merged as `merge` merges it, over honest tapes
pub record MergesFileSession {T : Type 0} (file : List ℕ) (old new : SessionState) (result : Result T Refusal) : Type 0 where
  pub merges : MergesFile true file old.held new.held result
  pub ran : RunsByLimit (FileMergeIsCounted file old.held) old new result
  pub means : KeepsMeans old new
  pub untaped : IfErr result IsUntaped

-- bytes are the summary file that `save` writes of the session's replica
pub record IsFileOf (held : Held) (file : List ℕ) : Type 0 where
  pub saved : IsSaved file held.query held.parts
  pub short : length file ≤ MAX_INPUT_LEN
  pub world : (world : World) → Fits world held → file ≡ world_file held.query world (told held.parts)

-- a text is the table of the answer, in a format
abbrev pub IsTableOf : Format → Held → (rows : ℕ) → (text : List ℕ) → Type 0
IsTableOf format held rows text = PrintsAnswer format held rows text

-- a text lists what is known, a line for each origin
abbrev pub IsKnownText : Held → List ℕ → Type 0
IsKnownText held text = text ≡ origins_text (known_list (told held.parts))

-- a text is the canonical one of the query, or of the columns
abbrev pub IsQueryText : Held → List ℕ → Type 0
IsQueryText held text = text ≡ spelling (by_names held.query)

abbrev pub IsColumnsText : Held → List ℕ → Type 0
IsColumnsText held text = text ≡ printed held.query.columns

-- a text is that of the answer's columns, with their types
abbrev pub IsAnswerColumnsText : Held → List ℕ → Type 0
IsAnswerColumnsText held text = text ≡ answer_columns held.query
