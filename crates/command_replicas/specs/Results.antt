-- What the calls of commands tell, each by its result. What follows of it are laws (ResultLaws). All of this is our own.
use Rattle.std.specs.Prelude.{◌≡◌, ◌⊎◌, Bool, ℕ, List, Option, Result, Ok, Err}
use Rattle.grouping_model.specs.declared.delivered.Delivered.{Delivered}
use Rattle.packed_rows.specs.Columns.{kinds}
use Rattle.batch_reader.specs.File.{BatchFile, FileFault}
use Rattle.batch_reader.specs.declared.batch.Batch.{Batch}
use Rattle.batch_reader.specs.declared.error.BatchError.{BatchError}
use Rattle.origin_prefix.specs.declared.error.RefusedBatch.{RefusedBatch}
use Rattle.replica_merge.specs.Replicas.{Held}
use Rattle.replica_merge.specs.Results.{DeliversBatch, IsLoaded, MergesHeld}
use Rattle.refusals.specs.Refusals.{batch_refusal, refused_batch, IsApart}
use Rattle.refusals.specs.declared.refusal.Refusal.{Refusal}
use Rattle.command_replicas.specs.Commands.{IsReadOf, IsNoSummary}

-- the batch of a file is delivered to a replica
pub record IsFed (honest : Bool) (file : Option BatchFile) (old new : Held) (result : Result Delivered RefusedBatch) : Type 0 where
  pub batch : Batch
  pub is_read : IsReadOf (kinds old.query.columns) file batch
  pub delivers : DeliversBatch honest old batch new result

-- no batch is read of a file, by its first fault, and nothing changes
pub record IsUnread (file : Option BatchFile) (old new : Held) (why : Refusal) : Type 0 where
  pub error : BatchError
  pub fault : FileFault (kinds old.query.columns) file error
  pub named : why ≡ batch_refusal error
  pub same : new ≡ old

-- a batch file is fed to a replica, over a tape disk that may be honest: it is read as a batch, or it is refused, and the batch is
-- delivered, or it is refused
abbrev pub Feeds : (honest : Bool) → Option BatchFile → (old new : Held) → Result Delivered Refusal → Type 0
Feeds honest file old new (Ok delivered) = IsFed honest file old new (Ok delivered)
Feeds honest file old new (Err why) = IsUnread file old new why
    ⊎ ((refused : RefusedBatch) × (why ≡ refused_batch refused) × IsFed honest file old new (Err refused))

-- a summary file is loaded as the replica that it is of, or why it is none
abbrev pub LoadsFile : List ℕ → Result Held Refusal → Type 0
LoadsFile file (Ok held) = IsLoaded file held
LoadsFile file (Err why) = IsNoSummary file why

-- the replica that a summary file is of is not merged with another, and nothing changes
pub record IsUnmerged (file : List ℕ) (old new : Held) (why : Refusal) : Type 0 where
  pub other : Held
  pub loaded : IsLoaded file other
  pub apart : IsApart old other why
  pub same : new ≡ old

-- a summary file is merged into a replica, over a tape disk that may be honest: it is loaded, or it is refused, and the two replicas
-- are merged, or they are not
abbrev pub MergesFile : {T : Type 0} → (honest : Bool) → List ℕ → (old new : Held) → Result T Refusal → Type 0
MergesFile honest file old new (Ok done) = (other : Held) × IsLoaded file other × MergesHeld honest old other new
MergesFile honest file old new (Err why) = ((new ≡ old) × IsNoSummary file why) ⊎ IsUnmerged file old new why
