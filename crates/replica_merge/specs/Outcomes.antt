-- What holds after a call of a replica, in terms of known batches and worlds. It follows from the call's promise (Results), by the laws
-- `delivered_batch`, `joined_replicas` and `merged_replicas`. All of this is our own.
use Rattle.std.specs.Prelude.{◌≡◌, ◌≢◌, ℕ, Bool, false, List, Option, Some, Result, IfOk, IfErr, OnOk, IsTrue}
use Rattle.grouping_model.specs.Datum.{Row}
use Rattle.grouping_model.specs.Replies.{reply_of}
use Rattle.grouping_model.specs.World.{World, IsWorld, knows, learn, union}
use Rattle.grouping_model.specs.declared.delivered.Delivered.{Delivered}
use Rattle.packed_rows.specs.Columns.{kinds}
use Rattle.batch_reader.specs.Rows.{packings}
use Rattle.batch_reader.specs.declared.batch.Batch.{Batch}
use Rattle.spill_partitions.specs.declared.error.SpillError.{SpillError}
use Rattle.origin_prefix.specs.Parts.{BatchTells, Disagrees}
use Rattle.origin_prefix.specs.declared.error.JoinError.TheVariants.{OriginDisagrees, Spill}
use Rattle.origin_prefix.specs.declared.error.RefusedBatch.{RefusedBatch}
use Rattle.replica_merge.specs.Replicas.{Parts, Held, part_of, told, Fits, AreHeldParts, DisagreeSomewhere}
use Rattle.replica_merge.specs.declared.error.MergeError.{MergeError}
use Rattle.replica_merge.specs.declared.error.MergeError.TheVariants.{Join}

-- a batch was delivered: the reply follows from what was known, and the batch is known from then on. Over an honest disk, a replica still
-- fits a world that has the batch, if it did before. A refused batch is handed back, and nothing changes. A disagreement is always
-- reported, and never for the batch of a world that the replica fits; nothing else is reported for a known number
pub record AfterDelivery (honest : Bool) (old : Held) (batch : Batch) (new : Held) (result : Result Delivered RefusedBatch) : Type 0 where
  pub held : AreHeldParts new.query new.parts
  pub reply : IfOk result (λ reply. reply ≡ reply_of (told old.parts) (batch.origin, batch.number))
  pub learns : OnOk result (told new.parts ≡ learn (told old.parts) (batch.origin, batch.number))
  pub fits : OnOk result (IsTrue honest → (world : World) (rows : List Row) → IsWorld (kinds old.query.columns) world → Fits world old
      → world batch.origin batch.number ≡ Some rows → batch.rows ≡ packings rows → Fits world new)
  pub agreed : OnOk result (¬ (Disagrees (part_of old.parts batch.origin) batch.number batch.rows))
  pub refused : IfErr result (λ e. (e.batch ≡ batch) × (new ≡ old))
  pub tells : IfErr result (λ e. BatchTells e.why (part_of old.parts batch.origin) batch.number batch.rows)
  pub unknown : IfErr result (λ e. (error : SpillError) → e.why ≡ Spill error
      → knows (told old.parts) (batch.origin, batch.number) ≡ false)
  pub agrees : IfErr result (λ e. (number : Option ℕ) → e.why ≡ OriginDisagrees number → (world : World) (rows : List Row)
      → Fits world old → world batch.origin batch.number ≡ Some rows → batch.rows ≢ packings rows)

-- a disagreement of two replicas is reported only if no world fits both
abbrev pub TellsApart : {T : Type 0} → Held → Held → Result T MergeError → Type 0
TellsApart own theirs result = IfErr result (λ e. (origin : ℕ) (number : Option ℕ) → e ≡ Join origin (OriginDisagrees number)
    → (world : World) → Fits world own → ¬ (Fits world theirs))

-- two replicas were joined apart from both: they disagree nowhere
pub record AfterJoin (own theirs : Held) (result : Result Parts MergeError) : Type 0 where
  pub agreed : OnOk result (¬ (DisagreeSomewhere own.parts theirs.parts))
  pub apart : TellsApart own theirs result

-- a replica took in another: it knows what either knew and, over an honest disk, fits each world that both fitted
pub record AfterMerge {T : Type 0} (honest : Bool) (old other new : Held) (result : Result T MergeError) : Type 0 where
  pub knows : OnOk result (told new.parts ≡ union (told old.parts) (told other.parts))
  pub fits : OnOk result (IsTrue honest → (world : World) → IsWorld (kinds old.query.columns) world → Fits world old → Fits world other
      → Fits world new)
  pub apart : TellsApart old other result
