-- The machine that a script runs: its state, and the reply to each command. All of this is our own.
use Rattle.std.specs.Prelude.{ℕ, ◌≡◌, nat_le, ◌&&◌, Bool, true, false, IsTrue, List, [], ◌∷◌, Option, Some, None, IfSome, unwrap_or}
use Rattle.std.specs.Prelude.{if◌then◌else◌}
use Rattle.std.specs.Str.{bytes_eq}
use Rattle.grouping_model.specs.Replies.{KnownOrigin, known_list, reply_of}
use Rattle.grouping_model.specs.World.{World, IsWorld, Knowledge, nothing, learn, union}
use Rattle.grouping_model.specs.declared.delivered.Delivered.{Delivered}
use Rattle.packed_rows.specs.Columns.{Column, kinds, IsSchemaText}
use Rattle.query_checks.specs.Checks.{Checked}
use Rattle.group_parser.specs.Parsing.{Accepts}
use Rattle.hash_agg.specs.declared.means.TheConstants.{MIN_LIMIT, MAX_LIMIT, DEFAULT_LIMIT}
use Rattle.script_io.specs.Records.{Record}
use Rattle.script_commands.specs.Commands.{Command, Request, Columns, Query, Limit, Replica, Feed, Known, Answer, Merge, Save, Load}
use Rattle.script_commands.specs.Commands.{Unknown, request_of}
use Rattle.refusals.specs.Batches.{Fed, IsBatch}
use Rattle.refusals.specs.Refusals.{limit_out_of_range}
use Rattle.refusals.specs.declared.refusal.Refusal.{Refusal}
use Rattle.refusals.specs.declared.refusal.Refusal.TheVariants.{NoMemory, TapeFault, BadCommand, NoSuchName, NameTaken}

-- the state: the columns and the query, once given, what each replica knows, by its name, what was saved, by its name, and the limit of
-- aggregations
pub record State : Type 0 where
  pub columns : Option (List Column)
  pub query : Option Checked
  pub replicas : List ℕ → Option Knowledge
  pub saved : List ℕ → Option Knowledge
  pub limit : ℕ

-- the first state: nothing but the default limit
abbrev pub start : State
start = record { columns = None; query = None; replicas = λ name. None; saved = λ name. None; limit = DEFAULT_LIMIT }

-- how a command is answered
pub data Reply : Type 0 where
  -- these are the columns
  Has_columns : List Column → Reply
  -- this is the query
  Has_query : Checked → Reply
  -- this is the limit
  Has_limit : (bytes : ℕ) → Reply
  -- a replica of this name is there
  Created : (name : List ℕ) → Reply
  -- the replica of this name took a batch
  Took : (name : List ℕ) → Fed → Delivered → Reply
  -- the replica of the first name knows what that of the second does, too
  Merged : (into from : List ℕ) → Reply
  -- what a replica knows of a query is saved under a name
  Saved : (saved : List ℕ) → Checked → Knowledge → Reply
  -- a replica of this name knows what was saved
  Loaded : (name : List ℕ) → Knowledge → Reply
  -- what is known, origin by origin
  Listed : List KnownOrigin → Reply
  -- the answer of a query over what is known
  Answered : Checked → Knowledge → Reply
  -- nothing changed
  Refused : Refusal → Reply

-- whether nothing changed
abbrev pub is_refused : Reply → Bool
is_refused (Refused why) = true
is_refused reply = false

-- a text or a batch is read: what it stands for is accepted; if it stands for nothing, it is refused, for some reason (Exact has it)
pub data Reads {X : Type 0} (says : X → Type 0) (accepting : X → Reply) (reply : Reply) : Type 0 where
  As : (what : X) → says what → reply ≡ accepting what → Reads says accepting reply
  As_nothing : ((what : X) → ¬ (says what)) → (why : Refusal) → reply ≡ Refused why → Reads says accepting reply

-- the reply to a schema's text: columns are given once
abbrev pub ColumnsReply : Option (List Column) → List ℕ → Reply → Type 0
ColumnsReply (Some columns) text reply = reply ≡ Refused BadCommand
ColumnsReply None text reply = Reads (IsSchemaText text) Has_columns reply

-- the reply to a query's text: a query is given once, after the columns
abbrev pub QueryReply : Option (List Column) → Option Checked → List ℕ → Reply → Type 0
QueryReply (Some columns) None text reply = Reads (Accepts columns text) Has_query reply
QueryReply columns query text reply = reply ≡ Refused BadCommand

-- the reply to a limit
abbrev pub limit_reply : ℕ → Reply
limit_reply bytes = if nat_le MIN_LIMIT bytes && nat_le bytes MAX_LIMIT then Has_limit bytes else Refused limit_out_of_range

-- the reply to a new name: replicas come after the query
abbrev pub replica_reply : Option Checked → Option Knowledge → List ℕ → Reply
replica_reply None known name = Refused BadCommand
replica_reply (Some query) (Some known) name = Refused NameTaken
replica_reply (Some query) None name = Created name

-- the reply to a batch for the replica of a name: it is taken, folded or early, or it is known
abbrev pub FeedReply : List Column → Option Knowledge → (name origin number : List ℕ) → ℕ → List Record → Reply → Type 0
FeedReply columns None name origin number told owned reply = reply ≡ Refused NoSuchName
FeedReply columns (Some known) name origin number told owned reply =
    Reads (IsBatch (kinds columns) origin number told owned) (λ fed. Took name fed (reply_of known (fed.origin, fed.number))) reply

-- the reply about the value of a name, if it has one
abbrev pub if_there : {X : Type 0} → Option X → (X → Reply) → Reply
if_there None replying = Refused NoSuchName
if_there (Some x) replying = replying x

-- the reply to a command that asks for this and owns these records, if memory suffices and no disk fails
abbrev pub Replies : State → Request → List Record → Reply → Type 0
Replies old (Columns text) owned reply = ColumnsReply old.columns text reply
Replies old (Query text) owned reply = QueryReply old.columns old.query text reply
Replies old (Limit bytes) owned reply = reply ≡ limit_reply bytes
Replies old (Replica name) owned reply = reply ≡ replica_reply old.query (old.replicas name) name
Replies old (Feed name origin number told) owned reply =
    FeedReply (unwrap_or old.columns []) (old.replicas name) name origin number told owned reply
Replies old (Known name) owned reply = reply ≡ if_there (old.replicas name) (λ known. Listed (known_list known))
Replies old (Answer name) owned reply = reply ≡ if_there old.query (λ query. if_there (old.replicas name) (Answered query))
Replies old (Merge into from) owned reply =
    reply ≡ if_there (old.replicas into) (λ known. if_there (old.replicas from) (λ more. Merged into from))
Replies old (Save name saved) owned reply = reply ≡ if_there old.query (λ query. if_there (old.replicas name) (Saved saved query))
Replies old (Load name saved) owned reply = reply ≡ if_there (old.saved saved) (Loaded name)
Replies old Unknown owned reply = reply ≡ Refused BadCommand

-- whether a command aggregates, so that a tape disk is read and written for it
abbrev pub uses_tapes : Request → Bool
uses_tapes (Feed name origin number told) = true
uses_tapes (Merge into from) = true
uses_tapes request = false

-- what holds of a command and its reply in a state
abbrev pub Step : Type 1
Step = State → Request → List Record → Reply → Type 0

-- how a command may be answered: as a step defines it, or by a refusal because memory ran out or the tape disk failed
pub data IsReply (step : Step) (old : State) (request : Request) (owned : List Record) (reply : Reply) : Type 0 where
  As_defined : step old request owned reply → IsReply step old request owned reply
  For_memory : reply ≡ Refused NoMemory → IsReply step old request owned reply
  For_fault : IsTrue (uses_tapes request) → reply ≡ Refused TapeFault → IsReply step old request owned reply

-- a name has this value, and the others what they had
abbrev pub with_replica : (List ℕ → Option Knowledge) → List ℕ → Knowledge → List ℕ → Option Knowledge
with_replica replicas name known other = if bytes_eq name other then Some known else replicas other

-- the state after a reply: a refusal and a question change nothing
abbrev pub after : State → Reply → State
after old (Has_columns columns) = record old { columns = Some columns }
after old (Has_query query) = record old { query = Some query }
after old (Has_limit bytes) = record old { limit = bytes }
after old (Created name) = record old { replicas = with_replica old.replicas name nothing }
after old (Took name fed delivered) =
    record old { replicas = with_replica old.replicas name (learn (unwrap_or (old.replicas name) nothing) (fed.origin, fed.number)) }
after old (Merged into from) =
    record old {
      replicas = with_replica old.replicas into
          (union (unwrap_or (old.replicas into) nothing) (unwrap_or (old.replicas from) nothing));
    }
after old (Saved saved query known) = record old { saved = with_replica old.saved saved known }
after old (Loaded name known) = record old { replicas = with_replica old.replicas name known }
after old reply = old

-- a step holds of each command and its reply, one after the other, of as many replies as commands
unfoldable pub Along : Step → State → List Command → List Reply → Type 0
Along step old [] [] = Unit {0}
Along step old (command ∷ commands) (reply ∷ replies) =
    step old (request_of command.head) command.owned reply × Along step (after old reply) commands replies
Along step old commands replies = ⊥

-- a world has the given columns
abbrev pub AgreesWith : World → Reply → Type 0
AgreesWith world (Has_columns columns) = IsWorld (kinds columns) world
AgreesWith world reply = Unit {0}

-- a feed to an existing replica agrees with a world: if it reads as a batch, it is the world's, whatever the reply
abbrev pub FeedAgrees : World → State → Request → List Record → Type 0
FeedAgrees world old (Feed name origin number told) owned =
    IfSome (old.replicas name) (λ known. (fed : Fed) → IsBatch (kinds (unwrap_or old.columns [])) origin number told owned fed
    → world fed.origin fed.number ≡ Some fed.rows)
FeedAgrees world old request owned = Unit {0}

-- a script agrees with a world that has the columns that its replies have told, and each batch that is fed: then no origin gave a number to
-- two batches. Only replies by `Replies` count
abbrev pub AgreesAt : World → Step
AgreesAt world old request owned reply = (Replies old request owned reply → AgreesWith world reply) × FeedAgrees world old request owned

abbrev pub Agrees : World → State → List Command → List Reply → Type 0
Agrees world = Along (AgreesAt world)
