-- What `pack` writes, and why it is refused. All of this is our own.
use Rattle.std.specs.Prelude.{◌≡◌, ◌⊎◌, ℕ, true, false, List, [], Option, IfSome}
use Rattle.std.specs.Io.KnownBytes.{Appends, Keeps}
use Rattle.batch_reader.specs.declared.error.BatchError.TheVariants as batch
use Rattle.packed_rows.specs.Columns.{Column}
use Rattle.plain_batches.specs.Packed.{PacksPlain}
use Rattle.plain_batches.specs.Refusal.{PackFault}
use Rattle.plain_batches.specs.declared.layout.Layout.{Layout}
use Rattle.plain_batches.specs.declared.error.PackError.{PackError}
use Rattle.plain_batches.specs.declared.error.PackError.TheVariants as plain
use Rattle.replica_merge.specs.Replicas.{Held}
use Rattle.replica_merge.specs.Results.{IsLoaded}
use Rattle.replies.specs.Text.{said_text}
use Rattle.replies.specs.declared.ending.ExitKind.{ExitKind}
use Rattle.replies.specs.declared.ending.ExitKind.TheVariants.{BadUsage}
use Rattle.refusals.specs.declared.error.RunError.TheVariants.{InputTooLong}
use Rattle.refusals.specs.declared.refusal.Refusal.{Refusal}
use Rattle.refusals.specs.declared.refusal.Refusal.TheVariants.{NoMemory, BadSchema, Batch, Run}
use Rattle.replies.specs.declared.reply.Reply.TheVariants.{Refused}
use Rattle.command_replicas.specs.Commands.{IsNoSummary}
use Rattle.command_words.specs.Streams.{is_stream}
use Rattle.command_streams.specs.Inputs.{IsUnread}
use Rattle.command_streams.specs.Stopping.{ending_of}
use Rattle.clap.specs.declared.parser.matches.ArgMatches.{ArgMatches}
use Rattle.command_packs.specs.Options.{AreUnread, AreWords, IsHeadOf, IsLayoutOf}
use Rattle.command_packs.specs.declared.options.Words.{Words}

-- the refusal of a plain CSV: a header that does not fit the columns is no schema of theirs, a blank line that may be a null leaves the
-- number of rows open, and rows are refused as those of a batch are
abbrev pub pack_refusal : PackError → Refusal
pack_refusal plain.NoMemory = NoMemory
pack_refusal plain.NoHeader = BadSchema
pack_refusal (plain.UnknownColumn place) = BadSchema
pack_refusal (plain.MissingColumn column) = BadSchema
pack_refusal (plain.RepeatedColumn column) = BadSchema
pack_refusal plain.BlankLine = Batch batch.RowCount
pack_refusal (plain.WrongWidth row) = Batch (batch.WrongWidth row)
pack_refusal plain.TooManyRows = Batch batch.TooManyRows
pack_refusal plain.TooLong = Run InputTooLong
pack_refusal (plain.BadField row column) = Batch (batch.BadField row column)

-- the bytes of a file are all that standard input had, where the file's word is `-`
abbrev pub IsGiven : (word : List ℕ) → (input : Option (List ℕ)) → (bytes : List ℕ) → Type 0
IsGiven word input bytes = is_stream word ≡ true → IfSome input (λ all. bytes ≡ all)

-- columns are those of the summary file that a word tells
pub record AreOfSummary (word : List ℕ) (input : Option (List ℕ)) (columns : List Column) : Type 0 where
  pub file : List ℕ
  pub held : Held
  pub loaded : IsLoaded file held
  pub same : columns ≡ held.query.columns
  pub given : IsGiven word input file

-- the bytes of a plain CSV are given so, where words do not read the summary from standard input
abbrev pub IsGivenCsv : Words → (input : Option (List ℕ)) → (csv : List ℕ) → Type 0
IsGivenCsv words input csv = is_stream words.summary.now ≡ false → IsGiven words.csv.now input csv

-- bytes are the batch file of a plain CSV, by the columns of a summary file. A CSV of no byte is one
-- only where that is allowed, or where a header is wanted
pub record IsPacked (words : Words) (input : Option (List ℕ)) (layout : Layout) (origin number : ℕ) (file : List ℕ) : Type 0 where
  pub columns : List Column
  pub of_summary : AreOfSummary words.summary.now input columns
  pub csv : List ℕ
  pub given : IsGivenCsv words input csv
  pub some : csv ≡ [] → (words.allows_empty ≡ true) ⊎ (layout.has_header ≡ true)
  pub packs : PacksPlain columns layout origin number csv file

-- bytes are the batch file that the words of a command line tell
pub record IsPackedAsTold (matches : ArgMatches) (input : Option (List ℕ)) (file : List ℕ) : Type 0 where
  pub words : Words
  pub layout : Layout
  pub origin : ℕ
  pub number : ℕ
  pub are_words : AreWords matches words
  pub is_layout : IsLayoutOf words layout
  pub is_head : IsHeadOf words origin number
  pub is_packed : IsPacked words input layout origin number file

-- why there is nothing to pack: the summary or the CSV is not read, or the one that a word tells is no summary
abbrev pub IsWithoutColumns : (word : List ℕ) → (input : Option (List ℕ)) → Refusal → Type 0
IsWithoutColumns word input why = IsUnread why ⊎ ((file : List ℕ) × IsNoSummary file why × IsGiven word input file)

-- a plain CSV is refused by its first fault, by the columns of a summary file
pub record RefusesPlain (words : Words) (input : Option (List ℕ)) (layout : Layout) (origin number : ℕ) (why : Refusal) : Type 0 where
  pub columns : List Column
  pub of_summary : AreOfSummary words.summary.now input columns
  pub csv : List ℕ
  pub given : IsGivenCsv words input csv
  pub error : PackError
  pub fault : PackFault columns layout origin number csv error
  pub named : why ≡ pack_refusal error

-- a CSV of no byte is refused where it is not allowed, unless a header is wanted, which it lacks
abbrev pub RefusesEmpty : Words → (input : Option (List ℕ)) → Layout → Refusal → Type 0
RefusesEmpty words input layout why =
    (words.allows_empty ≡ false) × (layout.has_header ≡ false) × IsGivenCsv words input [] × (why ≡ Batch batch.RowCount)

-- why there is no batch file
abbrev pub IsNotPacked : Words → (input : Option (List ℕ)) → Layout → (origin number : ℕ) → Refusal → Type 0
IsNotPacked words input layout origin number why =
    IsWithoutColumns words.summary.now input why ⊎ (RefusesEmpty words input layout why ⊎ RefusesPlain words input layout origin number why)

-- a plain CSV is refused as words tell it, and the reply says so
pub record RefusesWords (words : Words) (input : Option (List ℕ)) (exit : ExitKind) (old new : Option (List ℕ)) : Type 0 where
  pub layout : Layout
  pub origin : ℕ
  pub number : ℕ
  pub why : Refusal
  pub is_layout : IsLayoutOf words layout
  pub is_head : IsHeadOf words origin number
  pub refused : IsNotPacked words input layout origin number why
  pub ended : exit ≡ ending_of why
  pub replied : Appends old new (said_text (Refused why))

-- how a command ends that makes no batch file: its words tell no batch or no delimiter, and nothing is written, or a plain CSV is refused
abbrev pub StopsPacking : Words → (input : Option (List ℕ)) → ExitKind → (old new : Option (List ℕ)) → Type 0
StopsPacking words input exit old new = ((exit ≡ BadUsage) × AreUnread words × Keeps old new) ⊎ RefusesWords words input exit old new

-- the same by the words of a command line
pub record StopsAsTold (matches : ArgMatches) (input : Option (List ℕ)) (exit : ExitKind) (old new : Option (List ℕ)) : Type 0 where
  pub words : Words
  pub are_words : AreWords matches words
  pub stops : StopsPacking words input exit old new
