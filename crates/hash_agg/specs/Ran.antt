-- What a call that aggregates leaves of the disk of tapes and of the work that is counted, apart from what it answers. All of this is our
-- own; PostgreSQL 17 keeps the like in one struct for all nodes of a query (execnodes.h, EState).
use Rattle.std.specs.Prelude.{◌≡◌, ◌≢◌, ℕ, List, Option, Some, Result, Ok, Err, IsTrue}
use Rattle.aggregation_cost.specs.Space.{Setting}
use Rattle.grouping_model.specs.Query.{Query}
use Rattle.having_filter.specs.Meaning.{meaning}
use Rattle.query_checks.specs.Checks.{Checked}
use Rattle.spill_partitions.specs.Errors.{spill_faults}
use Rattle.spill_partitions.specs.declared.error.SpillError.{SpillError}
use Rattle.spill_partitions.specs.declared.error.SpillError.TheVariants.{TapeDamaged}
use Rattle.tape_disks.specs.Disk.{DiskFrame}
use Rattle.tape_disks.specs.declared.disk.TapeDisk.{Ghosts}
use Rattle.hash_agg.specs.Counting.{setting_by, HasGrown}
use Rattle.hash_agg.specs.Means.{MeansState}
use Rattle.hash_agg.specs.declared.work.Work.{Work}

-- how a call ended: it is done, or is refused, by an error of spilling or by something else
pub data Ended : Type 0 where
  Done : Ended
  Refused : Option SpillError → Ended

-- how it did that gave this result, by the error of spilling that its own error is, if it is one
abbrev pub ended_by : {T E : Type 0} → (E → Option SpillError) → Result T E → Ended
ended_by reason (Ok value) = Done
ended_by reason (Err error) = Refused (reason error)

abbrev pub ended : {T : Type 0} → Result T SpillError → Ended
ended result = ended_by Some result

-- how often the disk failed in a call that ended so
abbrev pub faults_of : Ended → ℕ
faults_of (Refused (Some error)) = spill_faults error
faults_of _ = 0

-- a fact of a call that is done, and of one that is refused
abbrev pub WhereDone : Ended → Type 0 → Type 0
WhereDone Done Fact = Fact
WhereDone (Refused reason) Fact = Unit {0}

abbrev pub WhereRefused : Ended → Type 0 → Type 0
WhereRefused Done Fact = Unit {0}
WhereRefused (Refused reason) Fact = Fact

-- a call aggregated for a query by some means, and ended so. The disk failed as often as its end says, and an honest one is never said to
-- be damaged. Where it is done, what it aggregated was counted, over an honest disk; where it is refused, nothing was. Over any disk the
-- counters only grow, and the blocks that it counts are within the limit, whatever was counted before
pub record Ran {D H : Type 0} (g : Ghosts D) (hash_of : H → List ℕ → ℕ) (query : Checked) (means : MeansState H)
    (Counts : Query → Setting → Work → ℕ → Work → ℕ → Type 0) (ended : Ended) (before : D) (begun : Work) (after : D) (done : Work) :
    Type 0 where
  pub disk : DiskFrame g (faults_of ended) before after
  pub undamaged : IsTrue (g.honest before) → ended ≢ Refused (Some TapeDamaged)
  pub counted : WhereDone ended (IsTrue (g.honest before) → Counts (meaning query) (setting_by hash_of (meaning query) means) begun
      (g.writes before) done (g.writes after))
  pub uncounted : WhereRefused ended (done ≡ begun)
  pub grown : HasGrown means.limit begun done
