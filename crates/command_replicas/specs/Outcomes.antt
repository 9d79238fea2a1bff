-- What holds after a feed or a merge of files: what users ask of it, in the words of what is known and of worlds. It follows of what the
-- call tells (Results), by the laws `fed_file` and `merged_file`. All of this is our own.
use Rattle.std.specs.Prelude.{◌≡◌, ◌≢◌, ℕ, Bool, List, Option, Result, IfOk, IfErr, OnOk, OnErr, IsTrue}
use Rattle.grouping_model.specs.World.{World, IsWorld, union}
use Rattle.grouping_model.specs.declared.delivered.Delivered.{Delivered}
use Rattle.packed_rows.specs.Columns.{kinds}
use Rattle.batch_reader.specs.File.{BatchFile}
use Rattle.replica_merge.specs.Replicas.{Held, Fits, MergesParts, DisagreeSomewhere, told}
use Rattle.summary_codec.specs.Reading.{IsSummary}
use Rattle.refusals.specs.Batches.{IsOfBatch}
use Rattle.refusals.specs.declared.refusal.Refusal.{Refusal}
use Rattle.refusals.specs.declared.refusal.Refusal.TheVariants.{NoMemory, OriginDisagrees}
use Rattle.command_replicas.specs.Commands.{TakesFile, DeliversFile, FileAgrees, FileDisagrees, IsNewFile, IsNoBatchFile, IsNotMerged}
use Rattle.command_replicas.specs.Commands.{IsOtherFile}

-- where disagreement is told, of an origin and a number
abbrev pub WhereApart : {T : Type 0} → Result T Refusal → (ℕ → Option ℕ → Type 0) → Type 0
WhereApart result Is = IfErr result (λ why. (of : ℕ) (at : Option ℕ) → why ≡ OriginDisagrees of at → Is of at)

-- a batch file was fed: the replica takes the file's batch, and the part of its origin does; or nothing changes, and why. A batch that
-- disagrees is never taken. Disagreement is told of no other, and of no batch of a world that the replica fits. Of a number that is known
-- already, nothing else is told but faults of the file and that memory ran out
pub record AfterFeed (honest : Bool) (file : Option BatchFile) (old new : Held) (result : Result Delivered Refusal) : Type 0 where
  pub took : IfOk result (TakesFile honest file old new)
  pub delivers : IfOk result (DeliversFile honest file old new)
  pub agreed : OnOk result (FileAgrees file old)
  pub same : OnErr result (new ≡ old)
  pub why : IfErr result (λ why. IsOfBatch why → IsNoBatchFile (kinds old.query.columns) file why)
  pub unknown : IfErr result (λ why. why ≢ NoMemory → ¬ (IsOfBatch why)
      → ((of : ℕ) (at : Option ℕ) → why ≢ OriginDisagrees of at) → IsNewFile file old)
  pub disagree : WhereApart result (FileDisagrees file old)
  pub other : WhereApart result (λ of at. IsOtherFile file old)

-- a summary file was merged: the parts of both are joined, which disagree nowhere, the replica knows the union and, over an honest disk,
-- fits each world that both fitted; or nothing changes, and why
pub record AfterMergedFile {T : Type 0} (honest : Bool) (file : List ℕ) (old new : Held) (result : Result T Refusal) : Type 0 where
  pub joined : OnOk result ((other : Held) × IsSummary file other.query other.parts × ¬ (DisagreeSomewhere old.parts other.parts)
      × MergesParts honest old.query old.parts other.parts new.parts × (new.query ≡ old.query) × (other.query ≡ old.query))
  pub knows : OnOk result ((other : Held) × IsSummary file other.query other.parts
      × (told new.parts ≡ union (told old.parts) (told other.parts)))
  pub fits : OnOk result (IsTrue honest → (world : World) → IsWorld (kinds old.query.columns) world → Fits world old → (other : Held)
      → IsSummary file other.query other.parts → Fits world other → Fits world new)
  pub same : OnErr result (new ≡ old)
  pub why : IfErr result (IsNotMerged file old)
  pub apart : WhereApart result (λ of at. (world : World) → Fits world old → (other : Held) → IsSummary file other.query other.parts
      → ¬ (Fits world other))
