-- Why a batch is not taken, or parts are not joined. All of this is our own.
use Rattle.std.specs.Prelude.{Option, Some, None, Result}
use Rattle.hash_agg.specs.Ran.{Ended, ended_by}
use Rattle.spill_partitions.specs.declared.error.SpillError.{SpillError}
use Rattle.spill_partitions.specs.declared.error.SpillError.TheVariants.{NoMemory}
use Rattle.origin_prefix.specs.declared.error.JoinError.{JoinError}
use Rattle.origin_prefix.specs.declared.error.JoinError.TheVariants.{OriginDisagrees, Spill}
use Rattle.origin_prefix.specs.declared.error.RefusedBatch.{RefusedBatch}

-- out of memory
abbrev pub no_memory : JoinError
no_memory = Spill NoMemory

-- the error of spilling that a call is refused by, if it is one
abbrev pub join_reason : JoinError → Option SpillError
join_reason (OriginDisagrees number) = None
join_reason (Spill error) = Some error

-- how a call ended that joins, and one that hands its batch back where it is refused
abbrev pub join_ended : {T : Type 0} → Result T JoinError → Ended
join_ended result = ended_by join_reason result

abbrev pub batch_ended : {T : Type 0} → Result T RefusedBatch → Ended
batch_ended result = ended_by (λ (refused : RefusedBatch). join_reason refused.why) result
