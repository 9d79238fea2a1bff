-- The replies that commands may have if an origin gives a number to two batches, or over a tape disk that isn't honest. All of this is
-- our own.
use Rattle.std.specs.Prelude.{ℕ, ◌≡◌, Bool, true, false, IsTrue, List, [], ◌∷◌, length, Option, codes, decimal}
use Rattle.grouping_model.specs.Aggregates.{Outcome}
use Rattle.grouping_model.specs.World.{World}
use Rattle.having_filter.specs.Kept.{headers}
use Rattle.table_print.specs.Table.{table_text}
use Rattle.script_io.specs.Records.{Record}
use Rattle.script_commands.specs.Commands.{Command, Request}
use Rattle.refusals.specs.Refusals.{tells_fault}
use Rattle.replies.specs.Text.{line, answer_text}
use Rattle.refusals.specs.declared.refusal.Refusal.TheVariants.{OriginDisagrees, TapeDamaged}
use Rattle.script_machine.specs.Exact.{Exactly}
use Rattle.script_machine.specs.Machine.{State, Reply, Took, Merged, Saved, Answered, Refused, Replies, IsReply, Along, uses_tapes}
use Rattle.script_machine.specs.Text.{reply_text}

-- whether a replica takes batches with a reply
abbrev pub takes_batches : Reply → Bool
takes_batches (Took name fed delivered) = true
takes_batches (Merged into from) = true
takes_batches reply = false

-- a command by which a replica would take batches is refused, since one number was given to two batches. Over a disk that isn't honest, it
-- may be refused as if that had been so
pub record IsDisagreement (old : State) (request : Request) (owned : List Record) (reply : Reply) : Type 0 where
  pub instead : Reply
  pub would : Replies old request owned instead
  pub takes : takes_batches instead ≡ true
  pub origin : ℕ
  pub told : Option ℕ
  pub refused : reply ≡ Refused (OriginDisagrees origin told)

-- a command that aggregates is refused, since the tape disk returned data that was not written to it: an honest one never does
pub record IsDamage (honest : Bool) (request : Request) (reply : Reply) : Type 0 where
  pub dishonest : honest ≡ false
  pub aggregates : IsTrue (uses_tapes request)
  pub refused : reply ≡ Refused TapeDamaged

-- the replies that a command may have: those as always, or one of two more refusals
pub data MayReply (honest : Bool) (old : State) (request : Request) (owned : List Record) (reply : Reply) : Type 0 where
  As_always : IsReply Exactly old request owned reply → MayReply honest old request owned reply
  For_disagreement : IsDisagreement old request owned reply → MayReply honest old request owned reply
  For_damage : IsDamage honest request reply → MayReply honest old request owned reply

-- commands may be answered so
abbrev pub Run : Bool → State → List Command → List Reply → Type 0
Run honest = Along (MayReply honest)

-- whether a reply tells that the tape disk failed
abbrev pub is_fault : Reply → Bool
is_fault (Refused why) = tells_fault why
is_fault reply = false

-- the texts that a reply may have, whatever the tape disk returned: for an answer the table of some rows; for a saved file some length; and
-- for any other reply the one text that it has for each world
abbrev pub MayRead : Reply → List ℕ → Type 0
MayRead (Saved saved query known) text = (count : ℕ) × (text ≡ line (codes "saved ") (decimal count))
MayRead (Answered query known) text = (rows : List (List Outcome)) × (text ≡ answer_text (length rows) (table_text (headers query) rows))
MayRead reply text = (world : World) → text ≡ reply_text world reply

-- the same reply by reply
unfoldable pub AllMayRead : List Reply → List (List ℕ) → Type 0
AllMayRead [] [] = Unit {0}
AllMayRead (reply ∷ replies) (text ∷ texts) = MayRead reply text × AllMayRead replies texts
AllMayRead replies texts = ⊥
