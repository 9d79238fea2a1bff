-- Why replicas are not merged, by what a join refuses. All of this is our own.
use Rattle.std.specs.Prelude.{Option, Some, None, Result}
use Rattle.hash_agg.specs.Ran.{Ended, ended_by}
use Rattle.origin_prefix.specs.Errors.{join_reason}
use Rattle.spill_partitions.specs.declared.error.SpillError.{SpillError}
use Rattle.spill_partitions.specs.declared.error.SpillError.TheVariants as spill
use Rattle.replica_merge.specs.declared.error.MergeError.{MergeError}
use Rattle.replica_merge.specs.declared.error.MergeError.TheVariants.{DifferentQuery, NoMemory, Join}

-- the error of spilling that a merge is refused by, if it is one
abbrev pub merge_reason : MergeError → Option SpillError
merge_reason DifferentQuery = None
merge_reason NoMemory = Some spill.NoMemory
merge_reason (Join origin why) = join_reason why

-- how a call ended that merges or joins replicas
abbrev pub merge_ended : {T : Type 0} → Result T MergeError → Ended
merge_ended result = ended_by merge_reason result
