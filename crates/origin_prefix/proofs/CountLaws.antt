-- What a delivery of a batch is counted as.
use Rattle.std.specs.Prelude.{◌≡◌, ◌≢◌, refl, ℕ, suc, ◌+◌, ◌<◌, ◌==◌, true, false, List, [], ◌∷◌, map, take, Option, Some, None}
use Rattle.std.specs.Prelude.{if◌then◌else◌, Result, Ok, Err, IfErr, IsErrAnd}
use Rattle.std.proofs.Common.{sym, ◌∙◌, ap, subst, arith}
use Rattle.grouping_model.specs.Query.{Query}
use Rattle.packed_rows.specs.Columns.{kinds}
use Rattle.query_checks.specs.Checks.{Checked}
use Rattle.having_filter.specs.Meaning.{meaning}
use Rattle.aggregation_cost.specs.Space.{Setting}
use Rattle.spill_partitions.specs.declared.error.SpillError.{SpillError}
use Rattle.spill_partitions.specs.declared.error.SpillError.TheVariants.{NoMemory, TapeDamaged}
use Rattle.tape_disks.specs.declared.disk.TapeDisk.{Ghosts}
use Rattle.hash_agg.specs.Counting.{AreCounted, IsCounted, setting_by}
use Rattle.hash_agg.specs.Inputs.{Packed}
use Rattle.hash_agg.specs.Lemmas.RanLaws.{Counting, ran_as, ran_still, refused_by, refused_other, refused_still}
use Rattle.hash_agg.specs.Means.{MeansState}
use Rattle.hash_agg.specs.Ran.{Ran, Refused, ended, faults_of}
use Rattle.hash_agg.specs.declared.work.Work.{Work}
use Rattle.origin_prefix.specs.Errors.{batch_ended, join_ended, join_reason, no_memory}
use Rattle.origin_prefix.specs.Parts.{Batches, Part, rows_at, IsEarly, IsPartOf, following, rows_following, aggregation_of}
use Rattle.origin_prefix.specs.Parts.{aggregations_behind, aggregations_on, aggregations_with}
use Rattle.origin_prefix.specs.Lemmas.ByNumber.{found_holds}
use Rattle.origin_prefix.specs.declared.error.JoinError.{JoinError}
use Rattle.origin_prefix.specs.declared.error.JoinError.TheVariants.{OriginDisagrees, Spill}
use Rattle.origin_prefix.specs.declared.error.RefusedBatch.{RefusedBatch}

-- a number that is early isn't next
pub early_apart : (query : Checked) (part : Part) (number : ℕ) (kept : List (List ℕ)) → IsPartOf query part → rows_at part.early number
    ≡ Some kept → number ≢ part.prefix + 1
early_apart query part number kept is there same =
    let high : part.prefix
    + 1 < number = (found_holds (IsEarly (kinds query.columns) part.prefix) part.early number kept is.early there).behind in
    omega (arith, high, same)

-- a batch that isn't next takes no aggregation
pub apart_counted : (q : Query) (setting : Setting) (part : Part) (number : ℕ) (rows : List (List ℕ)) (work : Work) (writes : ℕ)
    → number ≢ part.prefix + 1
    → AreCounted (aggregations_on part number rows) q setting work writes work writes
apart_counted q setting part number rows work writes apart =
    elim (number == part.prefix + 1) as (λ b. (number == part.prefix + 1) ≡ b
    → AreCounted (if b then aggregations_with part (Some rows) else []) q setting work writes work writes) [
      | true ↦ λ e. absurd (apart (grind arith))
      | false ↦ λ e. (refl, refl)
    ] refl

-- one that is next takes those of all that follow
pub next_counted : (part : Part) (number : ℕ) (rows : List (List ℕ)) → number ≡ part.prefix + 1
    → aggregations_on part number rows ≡ aggregations_with part (Some rows)
next_counted part number rows next =
    let is : (number == part.prefix + 1) ≡ true = grind arith in
    ap (λ b. if b then aggregations_with part (Some rows) else []) is

-- where batches follow a prefix, one aggregation of all of them is counted; where none does, none is
pub some_counted : (prefix : ℕ) (batches : Batches) (q : Query) (setting : Setting) (old : Work) (writes : ℕ) (new : Work) (written : ℕ)
    → prefix < prefix + following prefix batches
    → IsCounted (map Packed (rows_following prefix batches)) q setting old writes new written
    → AreCounted (aggregations_behind prefix batches) q setting old writes new written
some_counted prefix [] q setting old writes new written some counted = absurd (omega (arith, some))
some_counted prefix (b ∷ batches) q setting old writes new written some counted =
    elim (b.0 == prefix + 1) as (λ t. let lists : List (List (List ℕ)) = map (λ (batch : ℕ × List (List ℕ)). batch.1)
    (take (if t then suc (following (prefix + 1) batches) else 0) (b ∷ batches)) in
    prefix < prefix + (if t then suc (following (prefix + 1) batches) else 0)
    → IsCounted (map Packed lists) q setting old writes new written
    → AreCounted (aggregation_of lists) q setting old writes new written) [
      | true ↦ λ some counted. (new, written, counted, (refl, refl))
      | false ↦ λ some. absurd (omega (arith, some))
    ] some counted

pub none_counted : (prefix : ℕ) (batches : Batches) (q : Query) (setting : Setting) (work : Work) (writes : ℕ)
    → following prefix batches ≡ 0 → AreCounted (aggregations_behind prefix batches) q setting work writes work writes
none_counted prefix batches q setting work writes none =
    subst (λ k. AreCounted (aggregation_of (map (λ (batch : ℕ × List (List ℕ)). batch.1) (take k batches))) q setting work writes work
    writes) (sym none) (refl, refl)

-- ---- a call that is done or refused at once

-- a reason that is no fault of a disk
abbrev pub IsFaultless : RefusedBatch → Type 0
IsFaultless refused = (faults_of (Refused (join_reason refused.why)) ≡ 0) × (join_reason refused.why ≢ Some TapeDamaged)

pub disagrees_faultless : (refused : RefusedBatch) (number : Option ℕ) → refused.why ≡ OriginDisagrees number → IsFaultless refused
disagrees_faultless refused number same =
    let is : join_reason refused.why ≡ None = ap join_reason same in (ap (λ reason. faults_of (Refused reason)) is, λ damaged. cc)

pub no_memory_faultless : (refused : RefusedBatch) → refused.why ≡ no_memory → IsFaultless refused
no_memory_faultless refused same =
    let is : join_reason refused.why ≡ Some NoMemory = ap join_reason same in
    (ap (λ reason. faults_of (Refused reason)) is, λ damaged. no_damage (sym is ∙ damaged))
  where
    no_damage : Some NoMemory ≡ Some TapeDamaged → ⊥
    no_damage same = cc

-- a batch that isn't next to the prefix is known, kept or refused without a disk
pub batch_still : {D H T : Type 0} (g : Ghosts D) (hash_of : H → List ℕ → ℕ) (query : Checked) (means : MeansState H) (part : Part)
    (number : ℕ) (rows : List (List ℕ)) (r : Result T RefusedBatch) (disk : D) (work : Work) → number ≢ part.prefix + 1
    → IfErr r IsFaultless
    → Ran g hash_of query means (AreCounted (aggregations_on part number rows)) (batch_ended r) disk work disk work
batch_still g hash_of query means part number rows (Ok x) disk work apart faultless =
    ran_still g hash_of query means (AreCounted (aggregations_on part number rows)) disk work
    (λ honest. apart_counted (meaning query) (setting_by hash_of (meaning query) means) part number rows work (g.writes disk) apart)
batch_still g hash_of query means part number rows (Err e) disk work apart faultless =
    refused_still g hash_of query means (AreCounted (aggregations_on part number rows)) (join_reason e.why) disk work faultless.0
    (λ honest. faultless.1)

-- a call that is refused at once because memory ran out
pub no_memory_ran : {D H T : Type 0} (g : Ghosts D) (hash_of : H → List ℕ → ℕ) (query : Checked) (means : MeansState H)
    (Counts : Counting) (r : Result T SpillError) (disk : D) (work : Work) → IsErrAnd r (λ e. e ≡ NoMemory)
    → Ran g hash_of query means Counts (ended r) disk work disk work
no_memory_ran g hash_of query means Counts r disk work given =
    ran_as g hash_of query means Counts (Refused (Some NoMemory)) (ended r) disk work disk work (sym (refused_by Some r NoMemory given))
    (refused_still g hash_of query means Counts (Some NoMemory) disk work refl (λ honest same. cc))

-- an error that is handed on tells what it told, and out of memory tells nothing of the disk
pub refused_follows : {T : Type 0} (r : Result T SpillError) (error : SpillError) (Fact : Type 0) → IsErrAnd r (λ e. e ≡ error)
    → (error ≢ NoMemory → Fact) → IfErr r (λ e. e ≢ NoMemory → Fact)
refused_follows (Ok x) error Fact given fact = tt
refused_follows (Err e) error Fact given fact = λ other. fact (λ same. other (given ∙ same))

pub no_memory_follows : {T : Type 0} (r : Result T SpillError) (Fact : Type 0) → IsErrAnd r (λ e. e ≡ NoMemory)
    → IfErr r (λ e. e ≢ NoMemory → Fact)
no_memory_follows r Fact given = refused_follows r NoMemory Fact given (λ other. absurd (other refl))

-- parts that are not joined since they disagree, or by an error of spilling
pub disagree_ran : {D H T : Type 0} (g : Ghosts D) (hash_of : H → List ℕ → ℕ) (query : Checked) (means : MeansState H)
    (Counts : Counting) (r : Result T JoinError) (error : JoinError) (number : Option ℕ) (disk : D) (work : Work)
    → error ≡ OriginDisagrees number → IsErrAnd r (λ e. e ≡ error)
    → Ran g hash_of query means Counts (join_ended r) disk work disk work
disagree_ran g hash_of query means Counts r error number disk work apart given =
    ran_as g hash_of query means Counts (Refused None) (join_ended r) disk work disk work
    (sym (refused_by join_reason r error given ∙ ap (λ e. Refused (join_reason e)) apart))
    (refused_still g hash_of query means Counts None disk work refl (λ honest same. cc))

pub spill_ran : {D H T : Type 0} (g : Ghosts D) (hash_of : H → List ℕ → ℕ) (query : Checked) (means : MeansState H)
    (Counts Other : Counting) (r : Result T JoinError) (error : SpillError) (before : D) (begun : Work) (after : D) (done : Work)
    → IsErrAnd r (λ e. e ≡ Spill error) → Ran g hash_of query means Counts (Refused (Some error)) before begun after done
    → Ran g hash_of query means Other (join_ended r) before begun after done
spill_ran g hash_of query means Counts Other r error before begun after done given ran =
    ran_as g hash_of query means Other (Refused (Some error)) (join_ended r) before begun after done
    (sym (refused_by join_reason r (Spill error) given))
    (refused_other g hash_of query means Counts Other (Some error) before begun after done ran)
