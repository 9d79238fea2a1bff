-- What a command makes of the files that it takes. All of this is our own.
use Rattle.std.specs.Prelude.{◌≡◌, ◌≢◌, ◌⊎◌, ◌+◌, ◌^◌, ◌<◌, Bool, ℕ, List, [], ◌∷◌, length, Option, Some, None}
use Rattle.std.specs.Prelude.{Result, Ok, Err, IfErr, IsErrAnd}
use Rattle.std.specs.Io.KnownBytes.{Appends}
use Rattle.std.specs.List.{filter}
use Rattle.std.specs.Result.{is_err}
use Rattle.grouping_model.specs.declared.delivered.Delivered.{Delivered}
use Rattle.grouping_model.specs.Query.{Query}
use Rattle.aggregation_cost.specs.Space.{Setting}
use Rattle.batch_reader.specs.File.{read_file}
use Rattle.key_hashes.specs.Hashes.{fnv_1a}
use Rattle.tape_disks.specs.Files.{SystemState}
use Rattle.tape_disks.specs.declared.spill_disk.SpillDisk.{SpillDisk}
use Rattle.hash_agg.specs.Means.{MeansState}
use Rattle.hash_agg.specs.Ran.{Ran}
use Rattle.hash_agg.specs.declared.work.Work.{Work}
use Rattle.replica_merge.specs.Replicas.{Held}
use Rattle.refusals.specs.Refusals.{refusal_ended}
use Rattle.replies.specs.declared.ending.ExitKind.TheVariants.{Fault}
use Rattle.refusals.specs.declared.refusal.Refusal.{Refusal}
use Rattle.replies.specs.declared.reply.Reply.{Reply}
use Rattle.replies.specs.declared.reply.Reply.TheVariants as says
use Rattle.command_replicas.specs.Commands.{FeedIsCounted, FileMergeIsCounted}
use Rattle.command_replicas.specs.Results.{Feeds, MergesFile}
use Rattle.file_sentences.specs.declared.reasons.FileKind.{FileKind}
use Rattle.file_sentences.specs.declared.reasons.FileKind.TheVariants.{Batch, Summary}
use Rattle.command_streams.specs.Disks.{command_tapes, is_in_memory}
use Rattle.command_streams.specs.Inputs.{IsUnread}
use Rattle.command_streams.specs.Stopping.{ending_of}
use Rattle.command_streams.specs.declared.problem.Problem.{Problem}
use Rattle.command_files.specs.Reporting.{reply_on_output}

-- a replica takes the bytes of a file, over a disk of tapes that may be honest, and the reply: its batch is fed, or the replica of its
-- summary is merged
abbrev pub Takes : FileKind → (honest : Bool) → List ℕ → (old new : Held) → Result Reply Refusal → Type 0
Takes Batch honest file old new (Ok reply) =
    (delivered : Delivered) × (reply ≡ says.Delivered delivered) × Feeds honest (read_file file) old new (Ok delivered)
Takes Batch honest file old new (Err why) = Feeds honest (read_file file) old new (Err why)
Takes Summary honest file old new (Ok reply) = (reply ≡ says.Merged) × MergesFile {T = Unit {0}} honest file old new (Ok tt)
Takes Summary honest file old new (Err why) = MergesFile {T = Unit {0}} honest file old new (Err why)

-- what taking a file costs was counted: the aggregations of its batch, or of merging the replica of its summary
abbrev pub TakeIsCounted : FileKind → List ℕ → Held → Query → Setting → Work → ℕ → Work → ℕ → Type 0
TakeIsCounted Batch file held query setting old writes new written =
    FeedIsCounted (read_file file) held query setting old writes new written
TakeIsCounted Summary file held query setting old writes new written = FileMergeIsCounted file held query setting old writes new written

-- what was taken, or why not
abbrev pub taken : Result Reply Problem → Result Reply Refusal
taken (Ok reply) = Ok reply
taken (Err problem) = Err problem.why

-- a replica takes a file, whose bytes are absent where it was not read: then it is refused, and the replica stays
abbrev pub TakesFile : FileKind → (honest : Bool) → Option (List ℕ) → (old new : Held) → Result Reply Refusal → Type 0
TakesFile kind honest None old new result = (new ≡ old) × IsErrAnd result IsUnread
TakesFile kind honest (Some file) old new result = Takes kind honest file old new result

-- a file was taken into a replica by some means, and what that took was counted. Nothing was counted of one that was not read
abbrev pub RanFile : {F H : Type 0} → FileKind → Option (List ℕ) → Held → MeansState H → Result Reply Refusal
    → (before : SpillDisk (SystemState F)) → (begun : Work) → (after : SpillDisk (SystemState F)) → (done : Work) → Type 0
RanFile kind None held means told before begun after done = (after ≡ before) × (done ≡ begun)
RanFile kind (Some file) held means told before begun after done =
    Ran command_tapes (λ _ key. fnv_1a key) held.query means (TakeIsCounted kind file held) (refusal_ended told) before begun after done

-- what a running command has: its replica, its disk of tapes, what its aggregations took, and what standard output holds
pub record CommandState (F : Type 0) : Type 0 where
  pub held : Held
  pub disk : SpillDisk (SystemState F)
  pub work : Work
  pub output : Option (List ℕ)

abbrev pub state_of : {F : Type 0} → Held → SpillDisk (SystemState F) → Work → Option (List ℕ) → CommandState F
state_of held disk work output = record { held = held; disk = disk; work = work; output = output }

-- how a command takes files: as batches or as summaries, by its means, with tapes in memory or in a file, with replies on standard output
-- or beside it, and which of them is OUT
pub record Manner (H : Type 0) : Type 0 where
  pub kind : FileKind
  pub means : MeansState H
  pub honest : Bool
  pub is_piped : Bool
  pub listed : Option ℕ

abbrev pub manner_of : {F H : Type 0} → FileKind → MeansState H → SpillDisk F → (is_piped : Bool) → (listed : Option ℕ) → Manner H
manner_of kind means disk is_piped listed =
    record { kind = kind; means = means; honest = is_in_memory disk; is_piped = is_piped; listed = listed }

-- a file that was taken: its bytes, absent where it was not read, and the reply to it, or why it was refused
pub record TakenFile : Type 0 where
  pub bytes : Option (List ℕ)
  pub told : Result Reply Refusal

-- how many files were refused
abbrev pub refused_of : List TakenFile → ℕ
refused_of files = length (filter (λ file. is_err file.told) files)

-- the reply to a file
abbrev pub reply_to : Result Reply Refusal → Reply
reply_to (Ok reply) = reply
reply_to (Err why) = says.Refused why

-- a command goes on behind the file of a place: it was taken, or it is passed over, since no file or stream failed and it is not OUT
abbrev pub GoesOn : (listed : Option ℕ) → (place : ℕ) → Result Reply Refusal → Type 0
GoesOn listed place told = IfErr told (λ why. (ending_of why ≢ Fault) × (listed ≢ Some place))

-- a command takes the file of a place into its replica, replies to it, and goes on
pub record TakesOne {F H : Type 0} (manner : Manner H) (place : ℕ) (file : TakenFile) (old new : CommandState F) : Type 0 where
  pub takes : TakesFile manner.kind manner.honest file.bytes old.held new.held file.told
  pub ran : RanFile manner.kind file.bytes old.held manner.means file.told old.disk old.work new.disk new.work
  pub replied : Appends old.output new.output (reply_on_output manner.is_piped (reply_to file.told))
  pub goes_on : GoesOn manner.listed place file.told

-- it takes files, one after the other, of which the first has this place
abbrev pub TakesEach : {F H : Type 0} → Manner H → (place : ℕ) → List TakenFile → (old new : CommandState F) → Type 0
TakesEach {F} manner place [] old new = new ≡ old
TakesEach {F} manner place (file ∷ files) old new =
    (mid : CommandState F) × TakesOne manner place file old mid × TakesEach manner (place + 1) files mid new

-- it takes so many files, and counts those that it passes over: it counts none only where it passed over none, now or before
pub record TakesAll {F H : Type 0} (manner : Manner H) (place count : ℕ) (old new : CommandState F) (passed passed_now : ℕ) : Type 0 where
  pub files : List TakenFile
  pub many : length files ≡ count
  pub each : TakesEach manner place files old new
  pub counted : passed + refused_of files < 2 ^ 64 → passed_now ≡ passed + refused_of files
  pub all : passed_now ≡ 0 → (passed ≡ 0) × (refused_of files ≡ 0)

-- why a command stops at a file: a file or a stream failed, or the one that was refused is OUT
abbrev pub StopsAt : (listed : Option ℕ) → (place : ℕ) → Refusal → Type 0
StopsAt listed place why = (ending_of why ≡ Fault) ⊎ (listed ≡ Some place)
