-- Laws: how often the tape disk failed, by what was refused, and what a refusal is of.
use Rattle.std.specs.Prelude.{◌≡◌, ◌≢◌, ℕ, refl, Option, Some}
use Rattle.std.proofs.Common.{◌∙◌, ap}
use Rattle.batch_reader.specs.declared.error.BatchError.{BatchError}
use Rattle.batch_reader.specs.declared.error.BatchError.TheVariants as batch
use Rattle.hash_agg.specs.Ran.{Refused, faults_of}
use Rattle.spill_partitions.specs.declared.error.SpillError.{SpillError}
use Rattle.spill_partitions.specs.declared.error.SpillError.TheVariants as spill
use Rattle.origin_prefix.specs.Errors.{join_reason}
use Rattle.origin_prefix.specs.declared.error.JoinError.{JoinError}
use Rattle.origin_prefix.specs.declared.error.JoinError.TheVariants as join
use Rattle.replica_merge.specs.Errors.{merge_reason}
use Rattle.replica_merge.specs.declared.error.MergeError.{MergeError}
use Rattle.replica_merge.specs.declared.error.MergeError.TheVariants as merge
use Rattle.refusals.specs.Batches.{IsOfBatch}
use Rattle.refusals.specs.Refusals.{refusal_faults, refusal_reason, batch_refusal, spill_refusal, join_refusal}
use Rattle.refusals.specs.Refusals.{merge_refusal}
use Rattle.refusals.specs.declared.refusal.Refusal.{Refusal}
use Rattle.refusals.specs.declared.refusal.Refusal.TheVariants.{NoMemory}
use Rattle.refusals.specs.declared.refusal.Refusal.TheVariants as refuse

-- a refusal names the error of spilling that it was made of
pub spill_reason : (error : SpillError) → refusal_reason (spill_refusal error) ≡ Some error
spill_reason spill.NoMemory = refl
spill_reason spill.TapeFault = refl
spill_reason spill.TapeDamaged = refl

pub join_reasons : (origin : ℕ) (why : JoinError) → refusal_reason (join_refusal origin why) ≡ join_reason why
join_reasons origin (join.OriginDisagrees number) = refl
join_reasons origin (join.Spill error) = spill_reason error

pub merge_reasons : (error : MergeError) → refusal_reason (merge_refusal error) ≡ merge_reason error
merge_reasons merge.DifferentQuery = refl
merge_reasons merge.NoMemory = refl
merge_reasons (merge.Join origin why) = join_reasons origin why

-- it reports a failure of the disk where that error does, and damage where that does
pub reason_faults : (why : Refusal) → faults_of (Refused (refusal_reason why)) ≡ refusal_faults why
reason_faults refuse.NoMemory = refl
reason_faults refuse.TapeFault = refl
reason_faults refuse.TapeDamaged = refl
reason_faults why = refl

pub reason_damage : (why : Refusal) → why ≡ refuse.TapeDamaged → refusal_reason why ≡ Some spill.TapeDamaged
reason_damage why same = ap refusal_reason same

-- the fault of a batch reports none
pub batch_tells : (error : BatchError) → refusal_faults (batch_refusal error) ≡ 0
batch_tells batch.NoMemory = refl
batch_tells batch.BadBatchHead = refl
batch_tells batch.TooManyRows = refl
batch_tells batch.RowCount = refl
batch_tells (batch.WrongWidth row) = refl
batch_tells (batch.BadField row column) = refl

pub batch_reason : (error : BatchError) → faults_of (Refused (refusal_reason (batch_refusal error))) ≡ 0
batch_reason error = reason_faults (batch_refusal error) ∙ batch_tells error

pub batch_undamaged : (error : BatchError) → refusal_reason (batch_refusal error) ≢ Some spill.TapeDamaged
batch_undamaged batch.NoMemory same = cc
batch_undamaged batch.BadBatchHead same = cc
batch_undamaged batch.TooManyRows same = cc
batch_undamaged batch.RowCount same = cc
batch_undamaged (batch.WrongWidth row) same = cc
batch_undamaged (batch.BadField row column) same = cc

-- and is of the batch, unless memory ran out
pub batch_own : (error : BatchError) → batch_refusal error ≢ NoMemory → IsOfBatch (batch_refusal error)
batch_own batch.NoMemory other = other refl
batch_own error other = tt

-- it is not a disagreement
pub batch_never_disagrees : (error : BatchError) (of : ℕ) (at : Option ℕ) → batch_refusal error ≢ refuse.OriginDisagrees of at
batch_never_disagrees batch.NoMemory of at same = cc
batch_never_disagrees batch.BadBatchHead of at same = cc
batch_never_disagrees batch.TooManyRows of at same = cc
batch_never_disagrees batch.RowCount of at same = cc
batch_never_disagrees (batch.WrongWidth row) of at same = cc
batch_never_disagrees (batch.BadField row column) of at same = cc
