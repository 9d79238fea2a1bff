-- What a clause sees of the values of the code.
use Rattle.std.specs.Prelude.{ℕ, ◌≡◌, Bool, false, List, [], length, Option, Some, None, IfSome, IsTrue, option_map}
use Rattle.std.specs.declared.alloc.Global.{Global}
use Rattle.std.specs.declared.vec.Vec.{Vec}
use Rattle.std.specs.Map.{lookup}
use Rattle.std.specs.Str.{bytes_eq}
use Rattle.hash_agg.specs.declared.means.TheConstants.{DEFAULT_LIMIT}
use Rattle.key_hashes.specs.declared.sip_hash.Seed.{Seed}
use Rattle.grouping_model.specs.World.{World, IsWorld, Knowledge}
use Rattle.grouping_model.specs.declared.delivered.Delivered.{Delivered}
use Rattle.batch_reader.specs.Rows.{packings}
use Rattle.packed_rows.specs.Columns.{Column, kinds}
use Rattle.query_checks.specs.Checks.{Checked}
use Rattle.replica_merge.specs.Replicas.{Held, told, Fits, DeliversAt}
use Rattle.replica_merge.specs.Results.{MergesHeld}
use Rattle.summary_codec.specs.Reading.{IsSaved}
use Rattle.script_io.specs.Records.{Record}
use Rattle.script_commands.specs.Commands.{Request, Replica, Feed, Answer, Merge, Save, Load}
use Rattle.refusals.specs.Batches.{Fed, IsBatch}
use Rattle.replies.specs.Printed.{PrintsAnswer}
use Rattle.replies.specs.Text.{said_text}
use Rattle.replies.specs.declared.reply.Reply.{Reply}
use Rattle.replies.specs.declared.reply.Reply.TheVariants as says
use Rattle.replies.specs.declared.showing.Format.TheVariants.{Csv}
use Rattle.script_machine.specs.Machine as machine
use Rattle.script_machine.specs.Machine.{State, IsReply, AgreesAt, after}
use Rattle.script_machine.specs.Exact.{Exactly}
use Rattle.script_machine.specs.AnyDisk.{MayReply, MayRead}
use Rattle.script_machine.specs.Text.{reply_text}

-- what the code keeps: the columns and the query, once they were told, the replicas by their names, the summary files by theirs, the
-- limit of aggregations, and the seed of their tables
pub record Store : Type 0 where
  pub columns : Option (List Column)
  pub query : Option Checked
  pub replicas : List (Vec ℕ Global × Held)
  pub saved : List (Vec ℕ Global × List ℕ)
  pub limit : ℕ
  pub seed : Seed

-- nothing is there but the usual limit, and the seed that is given
abbrev pub empty : Seed → Store
empty seed = record { columns = None; query = None; replicas = []; saved = []; limit = DEFAULT_LIMIT; seed = seed }

-- the replica of a name
abbrev pub replica_at : Store → List ℕ → Option Held
replica_at store name = lookup (λ (key : Vec ℕ Global). bytes_eq name key.items) store.replicas

-- the file of a name
abbrev pub saved_at : Store → List ℕ → Option (List ℕ)
saved_at store name = lookup (λ (key : Vec ℕ Global). bytes_eq name key.items) store.saved

-- bytes are the file of what was held for a query
pub record IsFileOf (query : Option Checked) (bytes : List ℕ) : Type 0 where
  pub held : Held
  pub asked : query ≡ Some held.query
  pub is : IsSaved bytes held.query held.parts

-- bytes are the file of one replica, whatever its query
abbrev pub IsReplicaFile : List ℕ → Type 0
IsReplicaFile bytes = (held : Held) × IsSaved bytes held.query held.parts

-- the query is over the columns, and each replica and each file has it
pub record IsStore (store : Store) : Type 0 where
  pub over : IfSome store.query (λ query. store.columns ≡ Some query.columns)
  pub asked : (name : List ℕ) → IfSome (replica_at store name) (λ held. store.query ≡ Some held.query)
  pub files : (name : List ℕ) → IfSome (saved_at store name) (IsFileOf store.query)

-- what a replica knows
abbrev pub knowledge_of : Held → Knowledge
knowledge_of held = told held.parts

-- a file has what was saved
pub record HasSaved (known : Knowledge) (bytes : List ℕ) : Type 0 where
  pub held : Held
  pub is : IsSaved bytes held.query held.parts
  pub tells : knowledge_of held ≡ known

abbrev pub AreSaved : Option Knowledge → Option (List ℕ) → Type 0
AreSaved None None = Unit {0}
AreSaved (Some known) (Some bytes) = HasSaved known bytes
AreSaved known bytes = ⊥

-- what the code keeps is what is there
pub record Represents (state : State) (store : Store) : Type 0 where
  pub columns : state.columns ≡ store.columns
  pub query : state.query ≡ store.query
  pub replicas : (name : List ℕ) → state.replicas name ≡ option_map knowledge_of (replica_at store name)
  pub saved : (name : List ℕ) → AreSaved (state.saved name) (saved_at store name)
  pub limit : state.limit ≡ store.limit

-- the file of what fits a world
pub record IsFitting (world : World) (bytes : List ℕ) : Type 0 where
  pub held : Held
  pub is : IsSaved bytes held.query held.parts
  pub fits : Fits world held

-- what is held and what was saved fits a world of the columns
pub record FitsWorld (world : World) (store : Store) : Type 0 where
  pub of_columns : IfSome store.columns (λ columns. IsWorld (kinds columns) world)
  pub fit : (name : List ℕ) → IfSome (replica_at store name) (Fits world)
  pub files : (name : List ℕ) → IfSome (saved_at store name) (IsFitting world)

-- one name has this replica now, and nothing else changed
pub record Updates (old new : Store) (name : List ℕ) (held : Held) : Type 0 where
  pub columns : new.columns ≡ old.columns
  pub query : new.query ≡ old.query
  pub own : replica_at new name ≡ Some held
  pub others : (other : List ℕ) → bytes_eq name other ≡ false → replica_at new other ≡ replica_at old other
  pub saved : new.saved ≡ old.saved
  pub limit : new.limit ≡ old.limit
  pub seed : new.seed ≡ old.seed

-- one name has this file now, and nothing else changed
pub record Files (old new : Store) (name : List ℕ) (bytes : List ℕ) : Type 0 where
  pub columns : new.columns ≡ old.columns
  pub query : new.query ≡ old.query
  pub replicas : new.replicas ≡ old.replicas
  pub own : saved_at new name ≡ Some bytes
  pub others : (other : List ℕ) → bytes_eq name other ≡ false → saved_at new other ≡ saved_at old other
  pub limit : new.limit ≡ old.limit
  pub seed : new.seed ≡ old.seed

-- a reply of the code is one of the machine's: of the same kind, of a batch that became the same, or of the same refusal
abbrev pub IsSaid : machine.Reply → Reply → Type 0
IsSaid (machine.Has_columns columns) (says.Columns count) = Unit {0}
IsSaid (machine.Has_query query) (says.Query text) = Unit {0}
IsSaid (machine.Has_limit bytes) (says.Limit limit) = Unit {0}
IsSaid (machine.Created name) (says.Created made) = Unit {0}
IsSaid (machine.Took name fed delivered) (says.Delivered told) = told ≡ delivered
IsSaid (machine.Merged into from) says.Merged = Unit {0}
IsSaid (machine.Saved saved query known) (says.Saved count) = Unit {0}
IsSaid (machine.Loaded name known) says.Loaded = Unit {0}
IsSaid (machine.Listed list) (says.Listed lines) = Unit {0}
IsSaid (machine.Answered query known) (says.Answer rows table) = Unit {0}
IsSaid (machine.Refused why) (says.Refused told) = told ≡ why
IsSaid said reply = ⊥

-- a reply of the code to what is asked, over a tape disk that may be honest, is one of the machine's. What is kept then is what is there
-- then. Over an honest disk the reply is the right one
pub record Answers (honest : Bool) (state : State) (request : Request) (owned : List Record) (old : Store) (reply : Reply) (new : Store) :
    Type 0 where
  pub said : machine.Reply
  pub may : MayReply honest state request owned said
  pub represents : Represents (after state said) new
  pub is : IsSaid said reply
  pub reads : MayRead said (said_text reply)
  pub strict : IsTrue honest → (world : World) → FitsWorld world old → AgreesAt world state request owned said
      → IsReply Exactly state request owned said
  pub fits : IsTrue honest → (world : World) → FitsWorld world old → AgreesAt world state request owned said → FitsWorld world new
  pub text : IsTrue honest → (world : World) → FitsWorld world old → AgreesAt world state request owned said → said_text reply
      ≡ reply_text world said

-- the replicas and the files stay
pub record KeepsAll (old new : Store) : Type 0 where
  pub replicas : (name : List ℕ) → replica_at new name ≡ replica_at old name
  pub saved : (name : List ℕ) → saved_at new name ≡ saved_at old name

-- a replica of a name that holds nothing
pub record Makes (old new : Store) (name : List ℕ) : Type 0 where
  pub query : Checked
  pub asked : old.query ≡ Some query
  pub updates : Updates old new name (record { query = query; parts = [] })

-- the replica of a name takes the batch that was fed
pub record TakesFed (honest : Bool) (old new : Store) (name origin number : List ℕ) (told : ℕ) (owned : List Record)
    (delivered : Delivered) : Type 0 where
  pub held : Held
  pub later : Held
  pub fed : Fed
  pub there : replica_at old name ≡ Some held
  pub is_batch : IsBatch (kinds held.query.columns) origin number told owned fed
  pub delivers : DeliversAt honest held.query held.parts fed.origin fed.number (packings fed.rows) later.parts delivered
  pub updates : Updates old new name later

-- a table is that of the rows of the replica of a name, whatever other replicas hold, and nothing changes
pub record Prints (old new : Store) (name : List ℕ) (rows : ℕ) (table : List ℕ) : Type 0 where
  pub held : Held
  pub there : replica_at old name ≡ Some held
  pub prints : PrintsAnswer Csv held rows table
  pub keeps : KeepsAll old new

-- the replica of a name takes in that of another
pub record TakesIn (honest : Bool) (old new : Store) (into from : List ℕ) : Type 0 where
  pub own : Held
  pub theirs : Held
  pub later : Held
  pub there : replica_at old into ≡ Some own
  pub there_too : replica_at old from ≡ Some theirs
  pub merges : MergesHeld honest own theirs later
  pub updates : Updates old new into later

-- the replica of a name is saved under another, in so many bytes
pub record Saves (old new : Store) (name saved : List ℕ) (count : ℕ) : Type 0 where
  pub held : Held
  pub bytes : List ℕ
  pub there : replica_at old name ≡ Some held
  pub is_file : IsSaved bytes held.query held.parts
  pub counted : count ≡ length bytes
  pub files : Files old new saved bytes

-- the replica of a name is the one that was saved under another
pub record Loads (old new : Store) (name saved : List ℕ) : Type 0 where
  pub bytes : List ℕ
  pub later : Held
  pub there : saved_at old saved ≡ Some bytes
  pub loaded : (held : Held) → IsSaved bytes held.query held.parts → later ≡ held
  pub updates : Updates old new name later

-- what becomes of the replicas and the files after a request that is answered so, and which table is printed
abbrev pub Becomes : (honest : Bool) → Request → List Record → (old : Store) → Reply → (new : Store) → Type 0
Becomes honest (Replica name) owned old (says.Created made) new = Makes old new name
Becomes honest (Feed name origin number told) owned old (says.Delivered delivered) new =
    TakesFed honest old new name origin number told owned delivered
Becomes honest (Answer name) owned old (says.Answer rows table) new = Prints old new name rows table.items
Becomes honest (Merge into from) owned old says.Merged new = TakesIn honest old new into from
Becomes honest (Save name saved) owned old (says.Saved count) new = Saves old new name saved count
Becomes honest (Load name saved) owned old says.Loaded new = Loads old new name saved
Becomes honest request owned old reply new = KeepsAll old new

-- the same for whatever is there, and what becomes of what is kept. The seed stays
pub record Steps (honest : Bool) (request : Request) (owned : List Record) (old : Store) (reply : Reply) (new : Store) : Type 0 where
  pub steps : (state : State) → Represents state old → Answers honest state request owned old reply new
  pub becomes : Becomes honest request owned old reply new
  pub seed : new.seed ≡ old.seed
