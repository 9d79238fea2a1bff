-- What is counted of what a replica does. All of this is our own.
use Rattle.std.specs.Prelude.{◌≡◌, ℕ, ◌≤◌, List, [], ◌∷◌, ◌++◌, Result, IfErr, IsTrue}
use Rattle.grouping_model.specs.Query.{Query}
use Rattle.aggregation_cost.specs.Space.{Setting}
use Rattle.having_filter.specs.Meaning.{meaning}
use Rattle.hash_agg.specs.Counting.{setting_by}
use Rattle.hash_agg.specs.Means.{MeansState}
use Rattle.hash_agg.specs.Ran.{Ran}
use Rattle.hash_agg.specs.declared.work.Work.{Work}
use Rattle.origin_prefix.specs.Joins.{JoinIsCounted}
use Rattle.origin_prefix.specs.Parts.{Part}
use Rattle.tape_disks.specs.declared.disk.TapeDisk.{Ghosts}
use Rattle.replica_merge.specs.Errors.{merge_ended}
use Rattle.replica_merge.specs.Replicas.{Parts, Held, part_of}
use Rattle.replica_merge.specs.declared.error.MergeError.{MergeError}
use Rattle.replica_merge.specs.declared.error.MergeError.TheVariants.{Join}

-- what a merge takes was counted: each part of the other replica joined with the own part of its origin, one after the other
abbrev pub MergeIsCounted : (own theirs : Parts) → Query → Setting → Work → ℕ → Work → ℕ → Type 0
MergeIsCounted own [] query setting old writes new written = (new ≡ old) × (written ≡ writes)
MergeIsCounted own (held ∷ theirs) query setting old writes new written =
    (work : Work) × (pages : ℕ) × JoinIsCounted (part_of own held.0) held.1 query setting old writes work pages
    × MergeIsCounted own theirs query setting work pages new written

-- what joining the parts of all origins below one takes, one after the other. From this work and this number of pages it leads to a work
-- that no caller sees, and to a number of pages. At least that many are written
pub record JoinedBelow (own theirs : Parts) (origin : ℕ) (query : Query) (setting : Setting) (old : Work) (writes written : ℕ) :
    Type 0 where
  pub lower : Parts
  pub part : Part
  pub higher : Parts
  pub parts : theirs ≡ lower ++ ((origin, part) ∷ higher)
  pub work : Work
  pub pages : ℕ
  pub counted : MergeIsCounted own lower query setting old writes work pages
  pub reached : pages ≤ written

-- where a merge is refused for the parts of an origin, at least the pages are written that joining those of all lower ones takes
abbrev pub JoinsInOrder : (own theirs : Parts) → MergeError → Query → Setting → Work → ℕ → ℕ → Type 0
JoinsInOrder own theirs (Join origin why) query setting old writes written = JoinedBelow own theirs origin query setting old writes written
JoinsInOrder own theirs error query setting old writes written = Unit {0}

-- a replica was joined or merged with another by some means, with this result. Where it is done, this is what is counted. Where it is
-- refused over an honest disk, it says in which order the parts were joined
pub record MergeRan {D H T : Type 0} (g : Ghosts D) (hash_of : H → List ℕ → ℕ) (own theirs : Held) (means : MeansState H)
    (result : Result T MergeError) (before : D) (begun : Work) (after : D) (done : Work) : Type 0 where
  pub ran : Ran g hash_of own.query means (MergeIsCounted own.parts theirs.parts) (merge_ended result) before begun after done
  pub order : IfErr result (λ error. IsTrue (g.honest before) → JoinsInOrder own.parts theirs.parts error (meaning own.query)
      (setting_by hash_of (meaning own.query) means) begun (g.writes before) (g.writes after))
