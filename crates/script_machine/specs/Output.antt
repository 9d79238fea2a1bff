-- What a run of a script writes, over a disk that may be honest or not. All of this is our own.
use Rattle.std.specs.Prelude.{ℕ, ◌≡◌, ◌≤◌, ◌<◌, ◌+◌, Bool, true, false, IsTrue, List, [], ◌++◌, length, take, count_by, Option, IfSome}
use Rattle.std.specs.Prelude.{Result, Ok, Err}
use Rattle.std.specs.Io.KnownBytes.{Appends, Keeps}
use Rattle.grouping_model.specs.declared.limits.TheConstants.{MAX_INPUT_LEN}
use Rattle.tape_disks.specs.declared.disk.TapeDisk.{Ghosts}
use Rattle.script_io.specs.Output.{StopsShort}
use Rattle.script_commands.specs.Commands.{Command}
use Rattle.replies.specs.declared.ending.Outcome.{Outcome}
use Rattle.refusals.specs.declared.error.RunError.{RunError}
use Rattle.refusals.specs.declared.error.RunError.TheVariants.{InputTooLong, ReadFault, NoMemory, WriteFault}
use Rattle.script_machine.specs.AnyDisk.{Run, AllMayRead, is_fault}
use Rattle.script_machine.specs.Exact.{AreExact}
use Rattle.script_machine.specs.Headline.{commands_in}
use Rattle.script_machine.specs.Machine.{Reply, is_refused, start}
use Rattle.script_machine.specs.Streams.{Streams}
use Rattle.script_machine.specs.Text.{joined}

-- the tape disk while a run is made: whether it is honest, and how often it had failed before and after
pub record Disk : Type 0 where
  pub honest : Bool
  pub failed : ℕ
  pub failed_now : ℕ

abbrev pub disk_over : {D : Type 0} → Ghosts D → (before after : D) → Disk
disk_over g before after = record { honest = g.honest before; failed = g.failures before; failed_now = g.failures after }

-- replies report a failure of the disk as often as it failed, so no call of it is retried
abbrev pub AreFaultsOf : Disk → List Reply → Type 0
AreFaultsOf disk replies = disk.failed + count_by is_fault replies ≡ disk.failed_now

-- replies to commands, one to each, and their texts, by a run of the machine over such a disk. Over an honest one those of each prefix
-- are right
pub record IsOutput (disk : Disk) (commands : List Command) (replies : List Reply) (texts : List (List ℕ)) : Type 0 where
  pub runs : Run disk.honest start commands replies
  pub faults : AreFaultsOf disk replies
  pub reads : AllMayRead replies texts
  pub right : IsTrue disk.honest → (front : ℕ) → AreExact (take front commands) (take front replies) (take front texts)

-- the output of the commands, with so many refusals
pub record WritesAll (disk : Disk) (commands : List Command) (old new : Option (List ℕ)) (refused : ℕ) : Type 0 where
  pub replies : List Reply
  pub texts : List (List ℕ)
  pub output : IsOutput disk commands replies texts
  pub counts : count_by is_refused replies ≡ refused
  pub writes : Appends old new (joined texts)

-- an output of the first commands: the others were not answered
pub record WritesFront (disk : Disk) (commands : List Command) (wrote : List ℕ → Type 0) : Type 0 where
  pub done : List Command
  pub left : List Command
  pub all : commands ≡ done ++ left
  pub replies : List Reply
  pub texts : List (List ℕ)
  pub output : IsOutput disk done replies texts
  pub writes : wrote (joined texts)

-- if no command is left, none was replied to: so a run that replied to every command does not stop for memory
abbrev pub LeavesSome : (done left : List Command) → Type 0
LeavesSome done left = left ≡ [] → done ≡ []

-- what a run that stopped wrote: nothing if it did not read its script; if the writer failed, an output that lacks at least its last byte;
-- and, if memory ran out, the whole of one, not of all commands if there are any, after which the disk may have failed
abbrev pub StopsAt : Disk → List ℕ → (old new : Option (List ℕ)) → RunError → Type 0
StopsAt disk script old new InputTooLong = MAX_INPUT_LEN < length script
StopsAt disk script old new ReadFault = Unit {0}
StopsAt disk script old new WriteFault = (length script ≤ MAX_INPUT_LEN) × WritesFront disk (commands_in script) (StopsShort old new)
StopsAt disk script old new NoMemory = (MAX_INPUT_LEN < length script → Keeps old new) × (failed : ℕ) × (failed ≤ disk.failed_now)
    × (front : WritesFront (record disk { failed_now = failed }) (commands_in script) (Appends old new)) × LeavesSome front.done front.left

-- a run that did not read its script wrote nothing
abbrev pub KeepsUnread : Option (List ℕ) → Option (List ℕ) → RunError → Type 0
KeepsUnread old new InputTooLong = Keeps old new
KeepsUnread old new ReadFault = Keeps old new
KeepsUnread old new error = Unit {0}

-- how a run ended: it answered a script within the limit, with so many refusals, or it stopped before the end
abbrev pub Ends : Disk → Streams → Result Outcome RunError → Type 0
Ends disk streams (Ok outcome) = IfSome streams.script (λ script. (length script ≤ MAX_INPUT_LEN)
    × WritesAll disk (commands_in script) streams.old streams.new outcome.refused)
Ends disk streams (Err error) = IfSome streams.script (λ script. StopsAt disk script streams.old streams.new error)
    × KeepsUnread streams.old streams.new error

-- whether a run reports that its script could not be read
abbrev pub tells_read_fault : {A : Type 0} → Result A RunError → Bool
tells_read_fault (Err ReadFault) = true
tells_read_fault ended = false

-- whether a run reports that its output could not be written
abbrev pub tells_write_fault : {A : Type 0} → Result A RunError → Bool
tells_write_fault (Err WriteFault) = true
tells_write_fault ended = false
