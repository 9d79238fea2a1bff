-- What a running command writes to standard output. All of this is our own.
use Rattle.std.specs.Prelude.{◌≡◌, ◌≤◌, Bool, true, false, ℕ, List, [], ◌++◌, length, Option}
use Rattle.std.specs.Io.KnownBytes.{Appends}
use Rattle.script_io.specs.Fused.{written}
use Rattle.summary_codec.specs.Reading.{IsSaved}
use Rattle.grouping_model.specs.declared.limits.TheConstants.{MAX_INPUT_LEN}
use Rattle.replica_merge.specs.Replicas.{Held}
use Rattle.replies.specs.Printed.{PrintsAnswer}
use Rattle.replies.specs.Text.{said_text}
use Rattle.replies.specs.declared.ending.ExitKind.{ExitKind}
use Rattle.refusals.specs.declared.refusal.Refusal.{Refusal}
use Rattle.replies.specs.declared.reply.Reply.{Reply}
use Rattle.replies.specs.declared.reply.Reply.TheVariants.{Refused, Saved}
use Rattle.replies.specs.declared.showing.Format.{Format}
use Rattle.command_streams.specs.Stopping.{ending_of}
use Rattle.command_files.specs.declared.reporter.Reporter.{Reporter}

-- what standard output holds, if that is known
abbrev pub output_of : {W E : Type 0} → (W → Option (List ℕ)) → Reporter W E → Option (List ℕ)
output_of contents reporter = written contents reporter.streams.writer.now

-- nothing was written to standard output, and OUT goes where it went
pub record OnlySays {W E : Type 0} (old new : Reporter W E) : Type 0 where
  pub output : new.streams.writer.now ≡ old.streams.writer.now
  pub piped : new.is_piped ≡ old.is_piped

-- some bytes were written to standard output, and OUT goes where it went
pub record Prints {W E : Type 0} (contents : W → Option (List ℕ)) (old new : Reporter W E) (bytes : List ℕ) : Type 0 where
  pub output : Appends (output_of contents old) (output_of contents new) bytes
  pub piped : new.is_piped ≡ old.is_piped

-- what standard output gets of a reply: where OUT is standard output, the replies go to standard error
abbrev pub reply_on_output : (is_piped : Bool) → Reply → List ℕ
reply_on_output true reply = []
reply_on_output false reply = said_text reply

-- what standard output gets of a summary file: all of it, where OUT is standard output
abbrev pub file_on_output : (is_piped : Bool) → (file : List ℕ) → List ℕ
file_on_output true file = file
file_on_output false file = []

-- the reply was written that a command was refused, which ends as its refusal tells
pub record StopsBy {W E : Type 0} (contents : W → Option (List ℕ)) (why : Refusal) (exit : ExitKind) (old new : Reporter W E) : Type 0 where
  pub ended : exit ≡ ending_of why
  pub printed : Prints contents old new (reply_on_output old.is_piped (Refused why))

-- a replica was saved: its file, where OUT is standard output, and else the reply that says how long the file is
pub record Saves {W E : Type 0} (contents : W → Option (List ℕ)) (held : Held) (old new : Reporter W E) : Type 0 where
  pub file : List ℕ
  pub saved : IsSaved file held.query held.parts
  pub short : length file ≤ MAX_INPUT_LEN
  pub printed : Prints contents old new (file_on_output old.is_piped file ++ reply_on_output old.is_piped (Saved (length file)))

-- the answer of a replica was printed: its table, and nothing else
pub record PrintsTable {W E : Type 0} (contents : W → Option (List ℕ)) (format : Format) (held : Held) (old new : Reporter W E) :
    Type 0 where
  pub rows : ℕ
  pub table : List ℕ
  pub answers : PrintsAnswer format held rows table
  pub printed : Prints contents old new table
