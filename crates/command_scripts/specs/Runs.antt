-- How the command `script` ends, beside all that is stated of a run. All of this is our own.
use Rattle.std.specs.Prelude.{◌≡◌, ◌⊎◌, ℕ, Bool, false, List, Option, Result, IsTrue, OnOk}
use Rattle.key_hashes.specs.declared.sip_hash.Seed.{Seed}
use Rattle.tape_disks.specs.Files.{SystemState}
use Rattle.tape_disks.specs.declared.disk.TapeDisk.{Ghosts}
use Rattle.tape_disks.specs.declared.spill_disk.SpillDisk.{SpillDisk}
use Rattle.script_io.specs.Fused.{FailsAsTold, written}
use Rattle.script_io.specs.declared.fused.Fused.{Fused}
use Rattle.replies.specs.Status.{run_ending}
use Rattle.replies.specs.Text.{said_text}
use Rattle.replies.specs.declared.ending.ExitKind.{ExitKind}
use Rattle.replies.specs.declared.ending.ExitKind.TheVariants.{Fault}
use Rattle.replies.specs.declared.ending.Outcome.{Outcome}
use Rattle.refusals.specs.declared.error.RunError.{RunError}
use Rattle.refusals.specs.declared.error.RunError.TheVariants.{WriteFault}
use Rattle.refusals.specs.declared.refusal.Refusal.TheVariants.{Run}
use Rattle.replies.specs.declared.reply.Reply.TheVariants.{Refused}
use Rattle.script_machine.specs.Exact.{WritesExactly}
use Rattle.script_machine.specs.Headline.{Promise}
use Rattle.script_machine.specs.Output.{tells_write_fault}
use Rattle.script_machine.specs.Running.{Runs, RunsOver}
use Rattle.script_machine.specs.Streams.{Streams, streams}
use Rattle.command_streams.specs.Disks.{command_tapes, is_in_memory}
use Rattle.command_streams.specs.Stopping.{RepliesRefused}

-- the command ends as a run over a disk does, by this seed, of which all clauses of `run` hold: of what reader and writer were before
-- and after it
pub record RunEnds {D I W : Type 0} (g : Ghosts D) (seed : Seed) (remaining : I → Option (List ℕ)) (contents : W → Option (List ℕ))
    (reader reader_now : Fused I) (writer writer_now : Fused W) (disk disk_now : D) (exit : ExitKind) : Type 0 where
  pub run : Result Outcome RunError
  pub ended : exit ≡ run_ending run
  pub headline : Promise (g.honest disk) (streams remaining contents reader writer writer_now) run
  pub runs : Runs g seed remaining contents reader reader_now writer writer_now disk disk_now run

-- what a run reads and writes, of a script that a reader has left
abbrev pub streams_over : {W : Type 0} → (W → Option (List ℕ)) → Option (List ℕ) → (writer writer_now : Fused W) → Streams
streams_over contents script writer writer_now =
    record { script = script; old = written contents writer; new = written contents writer_now }

-- a script ran over a disk, by this seed, of which all clauses of `run` hold that do not speak of what the reader is after it
pub record RanScript {D W : Type 0} (g : Ghosts D) (seed : Seed) (script : Option (List ℕ)) (contents : W → Option (List ℕ))
    (writer writer_now : Fused W) (disk disk_now : D) (exit : ExitKind) : Type 0 where
  pub run : Result Outcome RunError
  pub ended : exit ≡ run_ending run
  pub headline : Promise (g.honest disk) (streams_over contents script writer writer_now) run
  pub exact : OnOk run (IsTrue (g.honest disk) → WritesExactly (streams_over contents script writer writer_now))
  pub any_disk : RunsOver g seed disk disk_now (streams_over contents script writer writer_now) run
  pub write_fault : FailsAsTold writer writer_now (tells_write_fault run)

-- a script ran, or there was no seed for its group tables: then nothing was written, and the command ends by a fault
abbrev pub SeededEnds : {D W : Type 0} → Ghosts D → Option (List ℕ) → (W → Option (List ℕ)) → (writer writer_now : Fused W)
    → (disk disk_now : D) → ExitKind → Type 0
SeededEnds g script contents writer writer_now disk disk_now exit =
    ((seed : Seed) × RanScript g seed script contents writer writer_now disk disk_now exit) ⊎ ((exit ≡ Fault) × (writer_now ≡ writer))

-- a script ran by some seed, over tapes in memory, where they are honest, or in a file of the system
abbrev pub RanOverTapes : {W : Type 0} → (F : Type 0) → (in_memory : Bool) → Option (List ℕ) → (W → Option (List ℕ))
    → (writer writer_now : Fused W) → ExitKind → Type 0
RanOverTapes F in_memory script contents writer writer_now exit =
    (seed : Seed) × (disk disk_now : SpillDisk (SystemState F)) × (is_in_memory disk ≡ in_memory)
    × RanScript command_tapes seed script contents writer writer_now disk disk_now exit

-- the command ends. Its script ran, or there was no seed for it, or no file for what is spilled, and the reply says so
abbrev pub ScriptEnds : {W : Type 0} → (F : Type 0) → (in_memory : Bool) → Option (List ℕ) → (W → Option (List ℕ))
    → (writer writer_now : Fused W) → ExitKind → Type 0
ScriptEnds F in_memory script contents writer writer_now exit =
    RanOverTapes F in_memory script contents writer writer_now exit
    ⊎ ((exit ≡ Fault) × (writer_now ≡ writer))
    ⊎ ((in_memory ≡ false) × RepliesRefused (said_text (Refused (Run WriteFault))) (written contents writer) (written contents writer_now)
    (Run WriteFault) exit)
