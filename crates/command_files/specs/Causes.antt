-- Why a command on files stops, and what it did until then. All of this is our own.
use Rattle.std.specs.Prelude.{◌≡◌, ◌≢◌, ◌⊎◌, ◌+◌, ◌<◌, ℕ, Bool, List, Option, Some, None, IsSome, IsSomeAnd, Err, codes}
use Rattle.std.specs.Io.KnownBytes.{Appends, Keeps}
use Rattle.clap.specs.declared.parser.matches.ArgMatches.{ArgMatches}
use Rattle.key_hashes.specs.declared.hash.Fnv1a.{Fnv1a}
use Rattle.hash_agg.specs.Means.{AreMeans, MeansState}
use Rattle.replica_merge.specs.Replicas.{Held}
use Rattle.replies.specs.declared.ending.ExitKind.{ExitKind}
use Rattle.replies.specs.declared.ending.ExitKind.TheVariants.{BadUsage, Fault}
use Rattle.refusals.specs.declared.refusal.Refusal.{Refusal}
use Rattle.refusals.specs.declared.refusal.Refusal.TheVariants.{NoMemory}
use Rattle.replies.specs.declared.reply.Reply.TheVariants.{Refused}
use Rattle.command_replicas.specs.Commands.{IsNoSummary, IsNotNew, IsTooLong}
use Rattle.file_sentences.specs.declared.reasons.FileKind.{FileKind}
use Rattle.file_sentences.specs.declared.reasons.FileKind.TheVariants.{Batch, Summary}
use Rattle.command_streams.specs.Inputs.{IsUnread}
use Rattle.command_streams.specs.Stopping.{ending_of}
use Rattle.command_words.specs.Told.{is_out_stream, limit_told, out_told}
use Rattle.command_words.specs.declared.subcommands.Subcommand.{Subcommand}
use Rattle.command_words.specs.declared.subcommands.Subcommand.TheVariants.{New, Feed, Merge}
use Rattle.command_files.specs.Ending.{ending_beside}
use Rattle.command_files.specs.Fates.{IsUnforced, KeepsFiles}
use Rattle.command_files.specs.Limits.{limit_of, IsOutOfRange}
use Rattle.command_files.specs.Reporting.{reply_on_output}
use Rattle.command_files.specs.Running.{files_told, BeginsWith, IsDone, Standpoint, StandsAsTold}
use Rattle.command_files.specs.Taking.{manner_of, state_of, CommandState, Manner, TakesAll, TakesFile}
use Rattle.command_files.specs.Texts.{AreTextsTold, IsNoText}

-- memory ran out, or a file or a stream failed
abbrev pub IsFailure : Refusal → Type 0
IsFailure why = (why ≡ NoMemory) ⊎ (ending_of why ≡ Fault)

-- why the two texts that a command line tells make no replica, unless memory ran out
pub record AreNoReplica (matches : ArgMatches) (why : Refusal) : Type 0 where
  pub columns : List ℕ
  pub query : List ℕ
  pub are_told : AreTextsTold matches columns query
  pub not_new : why ≢ NoMemory → IsNotNew columns query why

-- why a command has no replica to begin with. Of `new`, a text is not there, or the two texts make none; of another, a file was not read,
-- or is no summary. Memory may run out in each; which file it is, no clause says
abbrev pub HasNoReplica : Subcommand → ArgMatches → Refusal → Type 0
HasNoReplica New matches why =
    IsNoText matches (codes "columns-file") why ⊎ IsNoText matches (codes "query-file") why ⊎ AreNoReplica matches why
HasNoReplica subcommand matches why = IsUnread why ⊎ ((file : List ℕ) × IsNoSummary file why)

-- why a command can't begin: memory ran out, its limit is a number that is out of range, or it has no replica
abbrev pub CannotBegin : Subcommand → ArgMatches → Refusal → Type 0
CannotBegin subcommand matches why =
    (why ≡ NoMemory) ⊎ IsSomeAnd (limit_of (limit_told subcommand matches)) (λ limit. IsOutOfRange limit why)
    ⊎ HasNoReplica subcommand matches why

-- a replica refuses the file of a place, which is OUT
abbrev pub RefusesOut : {H : Type 0} → Manner H → (place : ℕ) → Held → Refusal → Type 0
RefusesOut manner place held why = (manner.listed ≡ Some place)
    × (file : Option (List ℕ)) × (new : Held) × TakesFile manner.kind manner.honest file held new (Err why)

-- a command stops behind files that it took: the next one is OUT, as the command found it, and its replica refuses that. Standard output
-- got no more than replies to those that it took
pub record StopsAtOut {F H : Type 0} (manner : Manner H) (count : ℕ) (old : CommandState F) (passed : ℕ) (output : Option (List ℕ))
    (why : Refusal) : Type 0 where
  pub before : ℕ
  pub mid : CommandState F
  pub passed_now : ℕ
  pub few : before < count
  pub takes : TakesAll manner 1 before old mid passed passed_now
  pub refuses : RefusesOut manner (before + 1) mid.held why
  pub kept : output ≡ mid.output

-- a command stops behind all files that it was to take, since its replica is not saved: its file would be too long, or memory ran out.
-- Standard output got no more than replies to them
pub record IsUnsaved {F H : Type 0} (manner : Manner H) (count : ℕ) (old : CommandState F) (passed : ℕ) (output : Option (List ℕ))
    (why : Refusal) : Type 0 where
  pub mid : CommandState F
  pub passed_now : ℕ
  pub takes : TakesAll manner 1 count old mid passed passed_now
  pub long : IsTooLong mid.held why
  pub kept : output ≡ mid.output

-- a command stops that is to take this many files: at one of them, or behind all
abbrev pub StopsTaking : {F H : Type 0} → Manner H → (count : ℕ) → (old : CommandState F) → (passed : ℕ) → (output : Option (List ℕ))
    → Refusal → Type 0
StopsTaking manner count old passed output why =
    StopsAtOut manner count old passed output why ⊎ IsUnsaved manner count old passed output why

-- so does one that takes files of a kind, from where it stands
abbrev pub StopsFiles : {F H : Type 0} → FileKind → (count : ℕ) → MeansState H → Held → (old : Standpoint F)
    → (output : Option (List ℕ)) → Refusal → Type 0
StopsFiles kind count means held old output why =
    StopsTaking (manner_of kind means old.disk old.is_piped old.listed) count (state_of held old.disk old.work old.output) old.passed
    output why

-- a command stops that has its replica, by what it does with it. One that prints stops only for want of memory, before it printed
abbrev pub StopsWork : {F H : Type 0} → Subcommand → ArgMatches → MeansState H → Held → (old : Standpoint F)
    → (output : Option (List ℕ)) → Refusal → Type 0
StopsWork New matches means held old output why = (output ≡ old.output) × IsTooLong held why
StopsWork Feed matches means held old output why = StopsFiles Batch (files_told Feed matches) means held old output why
StopsWork Merge matches means held old output why = StopsFiles Summary (files_told Merge matches) means held old output why
StopsWork subcommand matches means held old output why = (output ≡ old.output) × (why ≡ NoMemory)

-- a command stops where it stands: it can't begin, or it has its replica
abbrev pub StopsCommand : {F H : Type 0} → Subcommand → ArgMatches → MeansState H → (old : Standpoint F) → (output : Option (List ℕ))
    → Refusal → Type 0
StopsCommand subcommand matches means old output why = ((output ≡ old.output) × CannotBegin subcommand matches why)
    ⊎ ((held : Held) × BeginsWith subcommand matches held × StopsWork subcommand matches means held old output why)

-- a command stops at its work, from where its command line has it stand
pub record StopsAsTold (F : Type 0) (subcommand : Subcommand) (matches : ArgMatches) (old output : Option (List ℕ)) (why : Refusal) :
    Type 0 where
  pub means : MeansState Fnv1a
  pub from : Standpoint F
  pub held : Held
  pub limited : limit_of (limit_told subcommand matches) ≡ Some means.limit
  pub within : AreMeans means.limit
  pub stands : StandsAsTold subcommand matches from
  pub begun : from.output ≡ old
  pub begins : BeginsWith subcommand matches held
  pub stops : StopsWork subcommand matches means held from output why

-- why a command is refused, and what standard output holds by then: all that it held, where the command can't begin
abbrev pub IsCause : (F : Type 0) → Subcommand → ArgMatches → (old output : Option (List ℕ)) → Refusal → Type 0
IsCause F subcommand matches old output why =
    ((output ≡ old) × CannotBegin subcommand matches why) ⊎ StopsAsTold F subcommand matches old output why

-- a command was refused for a cause: behind what it had by then, standard output got the reply that says so, and nothing else
pub record IsRefusedFor (cause : (output : Option (List ℕ)) → Refusal → Type 0) (is_piped : Bool) (exit : ExitKind)
    (new : Option (List ℕ)) : Type 0 where
  pub why : Refusal
  pub output : Option (List ℕ)
  pub applies : cause output why
  pub ended : exit ≡ ending_of why
  pub printed : Appends output new (reply_on_output is_piped (Refused why))

-- by what its command line tells
abbrev pub IsRefused : (F : Type 0) → Subcommand → ArgMatches → (exit : ExitKind) → (old new : Option (List ℕ)) → Type 0
IsRefused F subcommand matches exit old new =
    IsRefusedFor (IsCause F subcommand matches old) (is_out_stream subcommand matches) exit new

-- a command may have an OUT that stays: it is told to keep a file there, or not forced to write a foreign one or a terminal
abbrev pub MayStay : Subcommand → ArgMatches → Type 0
MayStay subcommand matches = IsSome (out_told subcommand matches) × (KeepsFiles matches ⊎ IsUnforced matches)

-- the limit that it tells is no number of bytes, or its OUT stays. Standard output got nothing
abbrev pub IsMisused : Subcommand → ArgMatches → (exit : ExitKind) → (old new : Option (List ℕ)) → Type 0
IsMisused subcommand matches exit old new =
    (exit ≡ BadUsage) × Keeps old new × ((limit_of (limit_told subcommand matches) ≡ None) ⊎ MayStay subcommand matches)

-- a command did its work, but for files that it passed over, or it stopped
abbrev pub IsDoneOrStopped : (F : Type 0) → Subcommand → ArgMatches → (exit : ExitKind) → (old new : Option (List ℕ)) → Type 0
IsDoneOrStopped F subcommand matches exit old new =
    ((passed : ℕ) × (exit ≡ ending_beside passed) × IsDone F subcommand matches passed old new)
    ⊎ IsRefused F subcommand matches exit old new ⊎ IsMisused subcommand matches exit old new
