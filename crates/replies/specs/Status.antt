-- The exit status that says how a command ended. All of this is our own.
use Rattle.std.specs.Prelude.{ℕ, ◌==◌, Result, Ok, Err, if◌then◌else◌}
use Rattle.replies.specs.declared.ending.Outcome.{Outcome}
use Rattle.refusals.specs.declared.error.RunError.{RunError}
use Rattle.refusals.specs.declared.error.RunError.TheVariants.{InputTooLong, ReadFault, NoMemory, WriteFault}
use Rattle.refusals.specs.declared.refusal.Refusal as refusals
use Rattle.refusals.specs.declared.refusal.Refusal.TheVariants.{Run}
use Rattle.replies.specs.declared.ending.ExitKind.{ExitKind}
use Rattle.replies.specs.declared.ending.ExitKind.TheVariants.{Done, Refused, BadUsage, Fault}

-- 0 where all was done; 1 where something was refused; 2 for a wrong command line; 3 for a fault of a file or a stream
abbrev pub status_of : ExitKind → ℕ
status_of Done = 0
status_of Refused = 1
status_of BadUsage = 2
status_of Fault = 3

-- how a command ends that was refused
abbrev pub refusal_ending : refusals.Refusal → ExitKind
refusal_ending (Run ReadFault) = Fault
refusal_ending (Run WriteFault) = Fault
refusal_ending why = Refused

-- how the run of a script ends: with refused commands, or before its end
abbrev pub run_ending : Result Outcome RunError → ExitKind
run_ending (Ok outcome) = if outcome.refused == 0 then Done else Refused
run_ending (Err NoMemory) = Refused
run_ending (Err InputTooLong) = Refused
run_ending (Err ReadFault) = Fault
run_ending (Err WriteFault) = Fault
