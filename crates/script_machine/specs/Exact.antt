-- What the headline leaves open: why a text or a batch is refused. With this a command has one reply (law one_reply), and an output is
-- right to the byte. All of this is our own.
use Rattle.std.specs.Prelude.{ℕ, ◌≡◌, List, [], take, None, IfSome, unwrap_or}
use Rattle.grouping_model.specs.World.{World}
use Rattle.packed_rows.specs.Columns.{kinds}
use Rattle.script_commands.specs.Commands.{Command, Columns, Query, Feed}
use Rattle.refusals.specs.Batches.{IsNoBatch, IsNoQuery}
use Rattle.refusals.specs.declared.refusal.Refusal.TheVariants.{BadSchema}
use Rattle.script_machine.specs.Headline.{IsRightOutput, KeepNumbers, commands_in}
use Rattle.script_machine.specs.Machine.{Reply, Refused, Step, Along, Replies, IsReply, start}
use Rattle.script_machine.specs.Streams.{Streams, Wrote}
use Rattle.script_machine.specs.Text.{joined, replies_text}

-- why a text or a batch is refused that is read: a schema has one reason, a query its first fault, a batch its first
abbrev pub TellsWhy : Step
TellsWhy old (Columns text) owned (Refused why) = old.columns ≡ None → why ≡ BadSchema
TellsWhy old (Query text) owned (Refused why) = IfSome old.columns (λ columns. old.query ≡ None → IsNoQuery columns text why)
TellsWhy old (Feed name origin number told) owned (Refused why) =
    IfSome (old.replicas name) (λ known. IsNoBatch (kinds (unwrap_or old.columns [])) origin number told owned why)
TellsWhy old request owned reply = Unit {0}

-- the reply to a command, with the reason: there is only one
abbrev pub Exactly : Step
Exactly old request owned reply = Replies old request owned reply × TellsWhy old request owned reply

abbrev pub ExactRun : List Command → List Reply → Type 0
ExactRun = Along (IsReply Exactly) start

-- replies and texts are right to the byte
abbrev pub AreExact : List Command → List Reply → (texts : List (List ℕ)) → Type 0
AreExact commands replies texts = (history : World) → KeepNumbers history commands replies
    → ExactRun commands replies × (joined texts ≡ replies_text history replies)

-- an output is right, and each prefix of its replies has its reasons
pub record IsExactOutput (script output : List ℕ) : Type 0 where
  pub is_right : IsRightOutput script output
  pub tells : (front : ℕ) (history : World) → KeepNumbers history (take front (commands_in script)) (take front is_right.replies)
      → ExactRun (take front (commands_in script)) (take front is_right.replies)

-- if a run ends well over an honest disk, its output is right to the byte
abbrev pub WritesExactly : Streams → Type 0
WritesExactly streams = Wrote streams IsExactOutput
