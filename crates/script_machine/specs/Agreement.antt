-- When a script agrees with a world, and when two replicas, of one script or of two, know the same. All of this is our own.
use Rattle.std.specs.Prelude.{ℕ, ◌≡◌, ◌≤◌, ◌==◌, ◌&&◌, List, [], ◌∷◌, All, Contains, length, Some, None, IfSome, IsTrue, unwrap_or}
use Rattle.std.specs.Prelude.{if◌then◌else◌}
use Rattle.grouping_model.specs.Datum.{HasKinds}
use Rattle.grouping_model.specs.declared.limits.TheConstants.{LAST_ORIGIN, LAST_NUMBER, MAX_ROWS}
use Rattle.packed_rows.specs.Columns.{Column, kinds}
use Rattle.script_io.specs.Records.{Record}
use Rattle.script_commands.specs.Commands.{Command, Request, Feed, Answer, Known, Save}
use Rattle.grouping_model.specs.World.{World, Batch, Knowledge, knows}
use Rattle.query_checks.specs.Checks.{Checked}
use Rattle.refusals.specs.Batches.{Fed, IsBatch}
use Rattle.script_machine.specs.Machine.{State, Reply, Has_columns, Step, Along, Replies, after}
use Rattle.script_machine.specs.Text.{file_saved, reply_text}

-- the state after replies, one after the other
abbrev pub after_all : State → List Reply → State
after_all old [] = old
after_all old (reply ∷ replies) = after_all (after old reply) replies

-- replicas of these names answer the same query and know the same batches, of which both worlds have the same rows
pub record KnowTheSame (here there : State) (a b : List ℕ) (world other : World) : Type 0 where
  pub query : Checked
  pub asked : here.query ≡ Some query
  pub asked_there : there.query ≡ Some query
  pub known : Knowledge
  pub known_there : Knowledge
  pub knows_here : here.replicas a ≡ Some known
  pub knows_there : there.replicas b ≡ Some known_there
  pub same : (batch : Batch) → knows known batch ≡ knows known_there batch
  pub rows : (origin number : ℕ) → IsTrue (knows known (origin, number)) → world origin number ≡ other origin number

-- two requests ask the same of two replicas of these names: for the answer, for what is known, or to be saved
pub data AskAlike (a b : List ℕ) (ask asked : Request) : Type 0 where
  For_answers : ask ≡ Answer a → asked ≡ Answer b → AskAlike a b ask asked
  For_lists : ask ≡ Known a → asked ≡ Known b → AskAlike a b ask asked
  For_files : (saved other_saved : List ℕ) → ask ≡ Save a saved → asked ≡ Save b other_saved → AskAlike a b ask asked

-- a request of one script and one of another print the same text, and save the same bytes if they save any
abbrev pub SaysTheSame : (here there : State) (world other : World) (ask asked : Request) → Type 0
SaysTheSame here there world other ask asked =
    (owned : List Record) (r s : Reply) → Replies here ask owned r → Replies there asked owned s
    → (reply_text world r ≡ reply_text other s) × (file_saved world r ≡ file_saved other s)

-- two replicas print and save the same bytes: their answers, what they know, and their files, under any names
pub record PrintTheSame (here there : State) (a b : List ℕ) (world other : World) : Type 0 where
  pub answers : SaysTheSame here there world other (Answer a) (Answer b)
  pub lists : SaysTheSame here there world other (Known a) (Known b)
  pub files : (saved other_saved : List ℕ) → SaysTheSame here there world other (Save a saved) (Save b other_saved)

-- the world of some batches: the first that has a number counts
abbrev pub world_of : List Fed → World
world_of [] origin number = None
world_of (fed ∷ feds) origin number = if fed.origin == origin && fed.number == number then Some fed.rows else world_of feds origin number

-- no origin gave one number to two batches
abbrev pub OneBatchEach : List Fed → Type 0
OneBatchEach feds = (a b : Fed) → Contains feds a → Contains feds b → a.origin ≡ b.origin → a.number ≡ b.number → a.rows ≡ b.rows

-- a batch within the limits, of these columns
pub record IsOfColumns (columns : List Column) (fed : Fed) : Type 0 where
  pub origin : fed.origin ≤ LAST_ORIGIN
  pub first : 1 ≤ fed.number
  pub last : fed.number ≤ LAST_NUMBER
  pub few : length fed.rows ≤ MAX_ROWS
  pub rows : All (HasKinds (kinds columns)) fed.rows

-- the columns that were told are those of these batches
abbrev pub ColumnsOf : List Fed → Reply → Type 0
ColumnsOf feds (Has_columns columns) = All (IsOfColumns columns) feds
ColumnsOf feds reply = Unit {0}

-- a feed to an existing replica feeds one of these batches, if it reads as a batch
abbrev pub FeedsAmong : List Fed → State → Request → List Record → Type 0
FeedsAmong feds old (Feed name origin number told) owned =
    IfSome (old.replicas name) (λ known. (fed : Fed) → IsBatch (kinds (unwrap_or old.columns [])) origin number told owned fed
    → Contains feds fed)
FeedsAmong feds old request owned = Unit {0}

-- the batches that a run feeds are among these, which are of the columns that are told rightly
abbrev pub FeedsOf : List Fed → Step
FeedsOf feds old request owned reply = (Replies old request owned reply → ColumnsOf feds reply) × FeedsAmong feds old request owned

abbrev pub AreAmong : List Fed → State → List Command → List Reply → Type 0
AreAmong feds = Along (FeedsOf feds)
