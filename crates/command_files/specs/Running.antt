-- What a command on files does, from the replica that it begins with to what it prints. All of this is our own.
use Rattle.std.specs.Prelude.{◌≡◌, ◌-◌, ◌≤◌, ℕ, Bool, List, ◌++◌, length, codes, Option, Some, is_none}
use Rattle.std.specs.Io.KnownBytes.{Appends}
use Rattle.clap.specs.declared.parser.matches.ArgMatches.{ArgMatches}
use Rattle.grouping_model.specs.Replies.{known_list}
use Rattle.grouping_model.specs.declared.limits.TheConstants.{MAX_INPUT_LEN}
use Rattle.key_hashes.specs.declared.hash.Fnv1a.{Fnv1a}
use Rattle.hash_agg.specs.Means.{AreMeans, MeansState}
use Rattle.hash_agg.specs.declared.work.Work.{Work}
use Rattle.tape_disks.specs.Files.{SystemState}
use Rattle.tape_disks.specs.declared.spill_disk.SpillDisk.{SpillDisk}
use Rattle.script_io.specs.Fused.{has_failed}
use Rattle.summary_codec.specs.Reading.{IsSaved}
use Rattle.replica_merge.specs.Replicas.{Held, told}
use Rattle.replica_merge.specs.Results.{IsLoaded}
use Rattle.replies.specs.KnownTables.{known_in}
use Rattle.replies.specs.declared.reply.Reply.TheVariants.{Saved}
use Rattle.replies.specs.Printed.{PrintsAnswer}
use Rattle.replies.specs.declared.showing.Format.{Format}
use Rattle.command_replicas.specs.Commands.{IsNew}
use Rattle.holding_sentences.specs.Waiting.{waiting}
use Rattle.file_sentences.specs.declared.reasons.FileKind.{FileKind}
use Rattle.file_sentences.specs.declared.reasons.FileKind.TheVariants.{Batch, Summary}
use Rattle.command_streams.specs.Disks.{is_in_memory}
use Rattle.command_words.specs.Told.{is_out_stream, limit_told, spill_told, value_told, values_told}
use Rattle.command_words.specs.declared.subcommands.Subcommand.{Subcommand}
use Rattle.command_words.specs.declared.subcommands.Subcommand.TheVariants.{New, Feed, Merge, Known, Answer}
use Rattle.command_files.specs.Ending.{lacking}
use Rattle.command_files.specs.Formats.{format_told, known_format_told}
use Rattle.command_files.specs.Limits.{limit_of}
use Rattle.command_files.specs.Reporting.{file_on_output, output_of, reply_on_output}
use Rattle.command_files.specs.Texts.{AreTextsTold}
use Rattle.command_files.specs.Taking.{CommandState, Manner, TakesAll, manner_of, state_of}
use Rattle.command_files.specs.declared.reporter.Reporter.{Reporter}
use Rattle.command_files.specs.declared.session.Session.{Session}

-- a replica is new, of the texts of columns and a query that a command line tells
pub record IsNewAsTold (matches : ArgMatches) (held : Held) : Type 0 where
  pub columns : List ℕ
  pub query : List ℕ
  pub are_told : AreTextsTold matches columns query
  pub is_new : IsNew columns query held

-- the replica that a command begins with: a new one, or that of a summary file
abbrev pub BeginsWith : Subcommand → ArgMatches → Held → Type 0
BeginsWith New matches held = IsNewAsTold matches held
BeginsWith subcommand matches held = (file : List ℕ) × IsLoaded file held

-- what standard output gets where a replica is saved: its file, where OUT is standard output, and else the reply how long that is
abbrev pub saved_on_output : (is_piped : Bool) → (file : List ℕ) → List ℕ
saved_on_output is_piped file = file_on_output is_piped file ++ reply_on_output is_piped (Saved (length file))

-- a replica was saved, in a file that is not too long
pub record SavesHeld (held : Held) (is_piped : Bool) (old new : Option (List ℕ)) : Type 0 where
  pub file : List ℕ
  pub saved : IsSaved file held.query held.parts
  pub short : length file ≤ MAX_INPUT_LEN
  pub printed : Appends old new (saved_on_output is_piped file)

-- its answer was printed: its table, and nothing else
pub record AnswersHeld (format : Format) (held : Held) (old new : Option (List ℕ)) : Type 0 where
  pub rows : ℕ
  pub table : List ℕ
  pub answers : PrintsAnswer format held rows table
  pub printed : Appends old new table

-- a command takes so many files into its replica, counts those that it passes over, and saves the replica
pub record TakesAndSaves {F H : Type 0} (manner : Manner H) (count : ℕ) (old : CommandState F) (passed passed_now : ℕ)
    (output : Option (List ℕ)) : Type 0 where
  pub mid : CommandState F
  pub takes : TakesAll manner 1 count old mid passed passed_now
  pub saves : SavesHeld mid.held manner.is_piped mid.output output

-- where a command stands: its disk of tapes, what its aggregations took, which file is OUT, how many files were passed over, whether OUT
-- is standard output, and what that holds
pub record Standpoint (F : Type 0) : Type 0 where
  pub disk : SpillDisk (SystemState F)
  pub work : Work
  pub listed : Option ℕ
  pub passed : ℕ
  pub is_piped : Bool
  pub output : Option (List ℕ)

abbrev pub standpoint_of : {F W E : Type 0} → (W → Option (List ℕ)) → SpillDisk (SystemState F) → Work → (listed : Option ℕ) → (passed : ℕ)
    → Reporter W E → Standpoint F
standpoint_of contents disk work listed passed reporter = record {
  disk = disk;
  work = work;
  listed = listed;
  passed = passed;
  is_piped = reporter.is_piped;
  output = output_of contents reporter;
}

-- it takes so many files of a kind from there on, and saves its replica
abbrev pub TakesFiles : {F H : Type 0} → FileKind → (count : ℕ) → MeansState H → Held → (old : Standpoint F) → (passed_now : ℕ)
    → (output : Option (List ℕ)) → Type 0
TakesFiles kind count means held old passed_now output =
    TakesAndSaves (manner_of kind means old.disk old.is_piped old.listed) count (state_of held old.disk old.work old.output) old.passed
    passed_now output

-- how many files a command line tells that a command takes: those of a merge begin with the one whose replica it is
abbrev pub files_told : Subcommand → ArgMatches → ℕ
files_told Feed matches = length (values_told matches (codes "BATCH"))
files_told Merge matches = length (values_told matches (codes "IN")) - 1
files_told subcommand matches = 0

-- the name of the format that a command line tells
abbrev pub format_name : ArgMatches → List ℕ
format_name matches = value_told matches (codes "format")

-- what a command does with its replica, by what its command line tells: it saves it as it is, or with what files bring to it, or it prints
-- what it knows or its answer. One that takes no files passes none over
abbrev pub Performs : {F H : Type 0} → Subcommand → ArgMatches → MeansState H → Held → (old : Standpoint F) → (passed_now : ℕ)
    → (output : Option (List ℕ)) → Type 0
Performs New matches means held old passed_now output =
    SavesHeld held old.is_piped old.output output × (passed_now ≡ old.passed)
Performs Known matches means held old passed_now output =
    Appends old.output output (known_in (known_format_told (format_name matches)) (known_list (told held.parts)))
    × (passed_now ≡ old.passed)
Performs Answer matches means held old passed_now output =
    AnswersHeld (format_told (format_name matches)) held old.output output × (passed_now ≡ lacking matches held)
Performs Feed matches means held old passed_now output =
    TakesFiles Batch (files_told Feed matches) means held old passed_now output
Performs Merge matches means held old passed_now output =
    TakesFiles Summary (files_told Merge matches) means held old passed_now output

-- a command does its work, of a replica that it begins with
abbrev pub RunsCommand : {F H : Type 0} → Subcommand → ArgMatches → MeansState H → (old : Standpoint F) → (passed_now : ℕ)
    → (output : Option (List ℕ)) → Type 0
RunsCommand subcommand matches means old passed_now output =
    (held : Held) × BeginsWith subcommand matches held × Performs subcommand matches means held old passed_now output

-- where a command stands as its command line tells: tapes lie in a file exactly where one is told for what is spilled, and OUT is standard
-- output exactly where that is told. No file was passed over yet
pub record StandsAsTold {F : Type 0} (subcommand : Subcommand) (matches : ArgMatches) (from : Standpoint F) : Type 0 where
  pub spilled : is_in_memory from.disk ≡ is_none (spill_told subcommand matches)
  pub piped : from.is_piped ≡ is_out_stream subcommand matches
  pub fresh : from.passed ≡ 0

-- a command did its work as its command line tells, from where it stood, by the limit that is told or the usual one, which is no less and
-- no more than a limit may be, and passed so many files over; an answer that lacks batches which it should have counts as one
pub record IsDone (F : Type 0) (subcommand : Subcommand) (matches : ArgMatches) (passed : ℕ) (old new : Option (List ℕ)) : Type 0 where
  pub means : MeansState Fnv1a
  pub from : Standpoint F
  pub limited : limit_of (limit_told subcommand matches) ≡ Some means.limit
  pub within : AreMeans means.limit
  pub stands : StandsAsTold subcommand matches from
  pub begun : from.output ≡ old
  pub runs : RunsCommand subcommand matches means from passed new

-- what standard output holds in a session, if that is known
abbrev pub session_output : {R I W E A B : Type 0} → (W → Option (List ℕ)) → Session R I W E A B → Option (List ℕ)
session_output contents session = output_of contents session.reporter

-- whether it is a terminal
abbrev pub session_shown : {R I W E A B : Type 0} → Session R I W E A B → Bool
session_shown session = session.reporter.streams.terminals.output

-- whether a call of standard output failed in it
abbrev pub session_failed : {R I W E A B : Type 0} → Session R I W E A B → Bool
session_failed session = has_failed session.reporter.streams.writer.now
