-- What a batch and a query's text are, and how a replica takes a batch. All of this is our own.
use Rattle.std.specs.Prelude.{ℕ, ◌≡◌, ◌≢◌, ◌≤◌, Bool, IsTrue, List, length, Some}
use Rattle.grouping_model.specs.Datum.{Kind, Row}
use Rattle.grouping_model.specs.declared.limits.TheConstants.{MAX_ROWS}
use Rattle.grouping_model.specs.Replies.{reply_of}
use Rattle.grouping_model.specs.World.{World, IsWorld, learn}
use Rattle.grouping_model.specs.declared.delivered.Delivered.{Delivered}
use Rattle.packed_rows.specs.Columns.{Column, kinds}
use Rattle.group_parser.specs.Parsing.{Refuses}
use Rattle.group_parser.specs.declared.error.ParseError.{ParseError}
use Rattle.batch_reader.specs.Head.{ReadsOrigin, ReadsBatchNumber}
use Rattle.batch_reader.specs.Rows.{ReadsRows, packings}
use Rattle.batch_reader.specs.Refusal.{BuildFault}
use Rattle.batch_reader.specs.declared.batch.Batch.{Batch}
use Rattle.batch_reader.specs.declared.error.BatchError.{BatchError}
use Rattle.batch_reader.specs.declared.error.BatchError.TheVariants as batch
use Rattle.script_io.specs.Records.{Record}
use Rattle.replica_merge.specs.Replicas.{Held, told, Fits}
use Rattle.refusals.specs.declared.refusal.Refusal.{Refusal}
use Rattle.refusals.specs.declared.refusal.Refusal.TheVariants.{NoMemory, OriginDisagrees, TapeFault, TapeDamaged}
use Rattle.refusals.specs.Refusals.{batch_refusal, query_refusal}

-- a batch as it was fed
pub record Fed : Type 0 where
  pub origin : ℕ
  pub number : ℕ
  pub rows : List Row

-- a batch of these columns: what the fields and the records of a feed stand for
pub record IsBatch (kinds : List Kind) (origin number : List ℕ) (told : ℕ) (owned : List Record) (fed : Fed) : Type 0 where
  pub origin_is : ReadsOrigin origin fed.origin
  pub number_is : ReadsBatchNumber number fed.number
  pub few : told ≤ MAX_ROWS
  pub whole : length owned ≡ told
  pub rows_are : ReadsRows kinds owned fed.rows

-- why a feed is not a batch of these columns: the first refusal of a batch that applies
pub record IsNoBatch (kinds : List Kind) (origin number : List ℕ) (told : ℕ) (owned : List Record) (why : Refusal) : Type 0 where
  pub error : BatchError
  pub found : error ≢ batch.NoMemory
  pub fault : BuildFault kinds origin number told owned error
  pub named : why ≡ batch_refusal error

-- why a text is not a query over these columns: its first fault
pub record IsNoQuery (columns : List Column) (text : List ℕ) (why : Refusal) : Type 0 where
  pub error : ParseError
  pub fault : Refuses columns text error
  pub named : why ≡ query_refusal error

-- a refusal that is of the batch itself
abbrev pub IsOfBatch : Refusal → Type 0
IsOfBatch NoMemory = ⊥
IsOfBatch (OriginDisagrees origin told) = ⊥
IsOfBatch TapeFault = ⊥
IsOfBatch TapeDamaged = ⊥
IsOfBatch why = Unit {0}

-- a replica took a batch that was fed, over a tape disk that may be honest
pub record Takes (honest : Bool) (origin number : List ℕ) (told_rows : ℕ) (owned : List Record) (old new : Held) (delivered : Delivered) :
    Type 0 where
  pub fed : Fed
  pub is_batch : IsBatch (kinds old.query.columns) origin number told_rows owned fed
  pub reply : delivered ≡ reply_of (told old.parts) (fed.origin, fed.number)
  pub learns : told new.parts ≡ learn (told old.parts) (fed.origin, fed.number)
  pub fits : IsTrue honest → (world : World) → IsWorld (kinds old.query.columns) world → Fits world old → world fed.origin fed.number
      ≡ Some fed.rows → Fits world new
  pub asked : new.query ≡ old.query

-- a batch that was fed disagrees with what a replica holds: no world that this fits has the batch
pub record IsOtherBatch (origin number : List ℕ) (told_rows : ℕ) (owned : List Record) (held : Held) : Type 0 where
  pub fed : Fed
  pub is_batch : IsBatch (kinds held.query.columns) origin number told_rows owned fed
  pub never : (world : World) → Fits world held → ¬ (world fed.origin fed.number ≡ Some fed.rows)

-- a packed batch was read of these fields and records: it is what they stand for, packed
pub record IsRead (kinds : List Kind) (origin number : List ℕ) (told : ℕ) (owned : List Record) (read : Batch) : Type 0 where
  pub origin_is : ReadsOrigin origin read.origin
  pub number_is : ReadsBatchNumber number read.number
  pub few : length read.rows ≤ MAX_ROWS
  pub whole : length read.rows ≡ told
  pub rows : List Row
  pub rows_are : ReadsRows kinds owned rows
  pub packed : read.rows ≡ packings rows

-- a replica took a packed batch: that of whatever fields and records it was read of
abbrev pub TakesRead : (honest : Bool) → Batch → (old new : Held) → Delivered → Type 0
TakesRead honest read old new delivered =
    (origin number : List ℕ) (told_rows : ℕ) (owned : List Record) → IsRead (kinds old.query.columns) origin number told_rows owned read
    → Takes honest origin number told_rows owned old new delivered

-- a packed batch disagrees with what a replica holds
abbrev pub IsOtherRead : Batch → Held → Type 0
IsOtherRead read held =
    (origin number : List ℕ) (told_rows : ℕ) (owned : List Record) → IsRead (kinds held.query.columns) origin number told_rows owned read
    → IsOtherBatch origin number told_rows owned held
