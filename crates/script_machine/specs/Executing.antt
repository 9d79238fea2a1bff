-- What a command of a script does, in one record. All of this is our own.
use Rattle.std.specs.Prelude.{ℕ, ◌≡◌, IsTrue, List, [], ◌∷◌, ◌++◌, flat_map, count_by, Option, IfSome, Result, Ok, Err}
use Rattle.std.specs.Io.KnownBytes.{Appends}
use Rattle.key_hashes.specs.declared.sip_hash.Seed.{Seed}
use Rattle.tape_disks.specs.Disk.{DiskFrame}
use Rattle.tape_disks.specs.declared.disk.TapeDisk.{Ghosts}
use Rattle.script_io.specs.Records.{Record}
use Rattle.script_io.specs.Output.{StopsShort}
use Rattle.script_commands.specs.Commands.{Command, Request, request_of}
use Rattle.replies.specs.Text.{faults_in, is_refusal, said_text}
use Rattle.replies.specs.declared.ending.Outcome.{Outcome}
use Rattle.refusals.specs.declared.error.RunError.{RunError}
use Rattle.refusals.specs.declared.error.RunError.TheVariants.{InputTooLong, NoMemory, ReadFault, WriteFault}
use Rattle.replies.specs.declared.reply.Reply.{Reply}
use Rattle.script_machine.specs.Disagreements.{TellsDisagreement}
use Rattle.script_machine.specs.Headline.{commands_in}
use Rattle.script_machine.specs.Limits.{WorksAtLimit}
use Rattle.script_machine.specs.Output.{LeavesSome}
use Rattle.script_machine.specs.Streams.{Streams}
use Rattle.script_machine.specs.Views.{Store, Steps, empty}

-- a command that asks for this and owns these records is answered, over a tape disk. The reply and what is kept then are the machine's,
-- and an answer prints the rows of the replica that it names. What disagrees is never taken, and disagreement is told of nothing else. The
-- disk failed as often as the reply tells. An honest one is written as often as the aggregations want that the command makes, at the limit
-- that was told last
pub record Executes {D : Type 0} (g : Ghosts D) (request : Request) (owned : List Record) (old : Store) (before : D) (reply : Reply)
    (new : Store) (after : D) : Type 0 where
  pub answers : Steps (g.honest before) request owned old reply new
  pub tells : TellsDisagreement old request owned reply
  pub disk : DiskFrame g (faults_in reply) before after
  pub limit : IsTrue (g.honest before) → WorksAtLimit old request owned reply (g.writes before) (g.writes after)

-- commands are executed one after the other, each where the one before left the session and the disk
unfoldable pub Executed : {D : Type 0} → Ghosts D → (old : Store) (before : D) → List Command → List Reply → (new : Store) (after : D)
    → Type 0
Executed g old before [] [] new after = (new ≡ old) × (after ≡ before)
Executed {D = D} g old before (command ∷ commands) (reply ∷ replies) new after =
    (next : Store) × (disk : D) × Executes g (request_of command.head) command.owned old before reply next disk
    × Executed g next disk commands replies new after
Executed g old before commands replies new after = ⊥

-- all commands but those that are left were executed, from where nothing is there but a seed, and their replies were written so
pub record ExecutesAllBut {D : Type 0} (g : Ghosts D) (seed : Seed) (left commands : List Command) (before after : D)
    (wrote : List Reply → Type 0) : Type 0 where
  pub done : List Command
  pub all : commands ≡ done ++ left
  pub replies : List Reply
  pub new : Store
  pub each : Executed g (empty seed) before done replies new after
  pub writes : wrote replies

-- the texts of replies, one behind the other
abbrev pub said_texts : List Reply → List ℕ
said_texts replies = flat_map said_text replies

-- so many replies are refusals, and all were written
pub record AreWritten (old new : Option (List ℕ)) (refused : ℕ) (replies : List Reply) : Type 0 where
  pub counts : count_by is_refusal replies ≡ refused
  pub writes : Appends old new (said_texts replies)

-- the replies were written, but for the last one, of which at least the last byte is missing
pub record StopsInLast (old new : Option (List ℕ)) (replies : List Reply) : Type 0 where
  pub whole : List Reply
  pub last : Reply
  pub all : replies ≡ whole ++ last ∷ []
  pub mid : Option (List ℕ)
  pub writes : Appends old mid (said_texts whole)
  pub stops : StopsShort mid new (said_text last)

-- commands were executed: all of them, where that ended well; up to the one whose reply was not written, where the writer failed; and as
-- far as memory was there, which is not all of them, if there are any
abbrev pub Works : {D : Type 0} → Ghosts D → Seed → List Command → (old new : Option (List ℕ)) → (before after : D)
    → Result Outcome RunError → Type 0
Works g seed commands old new before after (Ok outcome) =
    ExecutesAllBut g seed [] commands before after (AreWritten old new outcome.refused)
Works g seed commands old new before after (Err WriteFault) = (left : List Command)
    × ExecutesAllBut g seed left commands before after (StopsInLast old new)
Works {D = D} g seed commands old new before after (Err NoMemory) = (left : List Command) × (disk : D) × (refused faults : ℕ)
    × DiskFrame g faults disk after
    × (ran : ExecutesAllBut g seed left commands before disk (AreWritten old new refused)) × LeavesSome ran.done left
Works g seed commands old new before after (Err error) = ⊥

-- the commands of a script were, unless it was not read
abbrev pub WorksThrough : {D : Type 0} → Ghosts D → Seed → Streams → (before after : D) → Result Outcome RunError → Type 0
WorksThrough g seed streams before after (Err InputTooLong) = after ≡ before
WorksThrough g seed streams before after (Err ReadFault) = after ≡ before
WorksThrough g seed streams before after result = IfSome streams.script
    (λ script. Works g seed (commands_in script) streams.old streams.new before after result)
