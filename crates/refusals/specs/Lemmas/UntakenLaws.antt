-- Why a replica did not take a batch or another replica, by the refusal.
use Rattle.std.specs.Prelude.{◌≡◌, ◌≢◌, ℕ, refl, Option}
use Rattle.std.proofs.Common.{ap}
use Rattle.spill_partitions.specs.declared.error.SpillError.{SpillError}
use Rattle.spill_partitions.specs.declared.error.SpillError.TheVariants as spill
use Rattle.origin_prefix.specs.declared.error.JoinError.{JoinError}
use Rattle.origin_prefix.specs.declared.error.JoinError.TheVariants as join
use Rattle.replica_merge.specs.declared.error.MergeError.{MergeError}
use Rattle.replica_merge.specs.declared.error.MergeError.TheVariants as merge
use Rattle.refusals.specs.Batches.{IsOfBatch}
use Rattle.refusals.specs.Refusals.{spill_refusal, join_refusal, merge_refusal}
use Rattle.refusals.specs.declared.refusal.Refusal.TheVariants.{OriginDisagrees, TapeDamaged}

-- why a batch was not taken, from the refusal
pub other_why : (origin : ℕ) (why : JoinError) (of : ℕ) (at : Option ℕ) → join_refusal origin why ≡ OriginDisagrees of at → why
    ≡ join.OriginDisagrees at
other_why origin (join.OriginDisagrees number) of at e = cc
other_why origin (join.Spill spill.NoMemory) of at e = cc
other_why origin (join.Spill spill.TapeFault) of at e = cc
other_why origin (join.Spill spill.TapeDamaged) of at e = cc

-- and of which origin
pub told_of : (origin asked : ℕ) (why : JoinError) (of : ℕ) (at : Option ℕ) → join_refusal origin why ≡ OriginDisagrees of at → origin
    ≡ asked → of ≡ asked
told_of origin asked (join.OriginDisagrees number) of at e same = cc
told_of origin asked (join.Spill spill.NoMemory) of at e same = cc
told_of origin asked (join.Spill spill.TapeFault) of at e same = cc
told_of origin asked (join.Spill spill.TapeDamaged) of at e same = cc

-- disagreement is told where a merge tells it
pub told_disagreement : (e : MergeError) (of : ℕ) (at : Option ℕ) → merge_refusal e ≡ OriginDisagrees of at → e
    ≡ merge.Join of (join.OriginDisagrees at)
told_disagreement merge.DifferentQuery of at is = cc is
told_disagreement merge.NoMemory of at is = cc is
told_disagreement (merge.Join origin (join.OriginDisagrees number)) of at is = cc is
told_disagreement (merge.Join origin (join.Spill spill.NoMemory)) of at is = cc is
told_disagreement (merge.Join origin (join.Spill spill.TapeFault)) of at is = cc is
told_disagreement (merge.Join origin (join.Spill spill.TapeDamaged)) of at is = cc is

-- damage, from the refusal
pub spill_damage : (error : SpillError) → spill_refusal error ≡ TapeDamaged → error ≡ spill.TapeDamaged
spill_damage spill.NoMemory e = cc
spill_damage spill.TapeFault e = cc
spill_damage spill.TapeDamaged e = refl

pub join_damage : (origin : ℕ) (why : JoinError) → join_refusal origin why ≡ TapeDamaged → why ≡ join.Spill spill.TapeDamaged
join_damage origin (join.OriginDisagrees number) e = cc
join_damage origin (join.Spill error) e = ap join.Spill (spill_damage error e)

pub merge_damage : (error : MergeError) → merge_refusal error ≡ TapeDamaged → (origin : ℕ)
    × (error ≡ merge.Join origin (join.Spill spill.TapeDamaged))
merge_damage merge.DifferentQuery e = cc
merge_damage merge.NoMemory e = cc
merge_damage (merge.Join origin why) e = (origin, ap (merge.Join origin) (join_damage origin why e))

-- one that tells no disagreement
pub by_spill : (origin : ℕ) (why : JoinError) → ((of : ℕ) (at : Option ℕ) → join_refusal origin why ≢ OriginDisagrees of at)
    → (error : SpillError) × (why ≡ join.Spill error)
by_spill origin (join.OriginDisagrees number) other = absurd (other origin number refl)
by_spill origin (join.Spill error) other = (error, refl)

-- one that is of the batch isn't one of these
pub not_of_batch : (origin : ℕ) (why : JoinError) → IsOfBatch (join_refusal origin why) → ⊥
not_of_batch origin (join.OriginDisagrees number) of = of
not_of_batch origin (join.Spill spill.NoMemory) of = of
not_of_batch origin (join.Spill spill.TapeFault) of = of
not_of_batch origin (join.Spill spill.TapeDamaged) of = of
