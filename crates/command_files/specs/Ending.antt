-- How a command on files ends. All of this is our own.
use Rattle.std.specs.Prelude.{ℕ, Bool, ◌==◌, ◌&&◌, codes, not, if◌then◌else◌}
use Rattle.grouping_model.specs.Replies.{known_list}
use Rattle.clap.specs.declared.parser.matches.ArgMatches.{ArgMatches}
use Rattle.replica_merge.specs.Replicas.{Held, told}
use Rattle.replies.specs.declared.ending.ExitKind.{ExitKind}
use Rattle.replies.specs.declared.ending.ExitKind.TheVariants.{Done, Refused}
use Rattle.holding_sentences.specs.Waiting.{waiting}
use Rattle.command_words.specs.Told.{is_flag_told}

-- how a command ends that did its work: something was refused where files were passed over, or where an answer lacks batches that it
-- should have, which counts as one
abbrev pub ending_beside : (passed : ℕ) → ExitKind
ending_beside passed = if passed == 0 then Done else Refused

-- how many answers lack batches that they should have, by whether they should have all, and by how many origins have early ones
abbrev pub lacking_of : (wants_all : Bool) → (waiting : ℕ) → ℕ
lacking_of wants_all waiting = if wants_all && not (waiting == 0) then 1 else 0

-- the same of the answer of a replica, which should have all batches where a command line tells `--complete`
abbrev pub lacking : ArgMatches → Held → ℕ
lacking matches held = lacking_of (is_flag_told matches (codes "complete")) (waiting (known_list (told held.parts)))
