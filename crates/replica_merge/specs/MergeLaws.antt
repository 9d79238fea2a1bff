-- Laws: what follows from joining or merging two replicas.
use Rattle.std.specs.Prelude.{◌≡◌, ℕ, Bool, Option, Result, IfErr, OnOk, IsTrue}
use Rattle.std.proofs.Common.{sym, subst}
use Rattle.std.proofs.lemmas.Result.{IfOk-weaker, IfErr-weaker}
use Rattle.replica_merge.specs.Lemmas.Words.{World, IsWorld, union, kinds, OriginDisagrees, Parts, Held, told, Fits, DisagreeSomewhere}
use Rattle.replica_merge.specs.Lemmas.Words.{MergeTells}
use Rattle.replica_merge.specs.Lemmas.MergedLaws.{aside_agree, never_refused, merges_told, merges_fit}
use Rattle.replica_merge.specs.Results.{JoinsHeld, JoinsReplicas, MergesHeld, MergesReplicas}
use Rattle.replica_merge.specs.declared.error.MergeError.{MergeError}
use Rattle.replica_merge.specs.declared.error.MergeError.TheVariants.{Join}

-- replicas that are joined disagree nowhere
pub joined_agree : (honest : Bool) (own theirs : Held) (joined : Parts) → JoinsHeld honest own theirs joined
    → ¬ (DisagreeSomewhere own.parts theirs.parts)
joined_agree honest own theirs joined is = aside_agree honest own.query own.parts theirs.parts joined is.aside

pub join_agreed : (honest : Bool) (own theirs : Held) (result : Result Parts MergeError) → JoinsReplicas honest own theirs result
    → OnOk result (¬ (DisagreeSomewhere own.parts theirs.parts))
join_agreed honest own theirs result is =
    IfOk-weaker result (JoinsHeld honest own theirs) _ (λ joined held. joined_agree honest own theirs joined held) is.joined

-- replicas that fit one world never disagree
pub refused_apart : (own theirs : Held) (origin : ℕ) (number : Option ℕ) → MergeTells (Join origin (OriginDisagrees number)) own theirs
    → (world : World) → Fits world own → ¬ (Fits world theirs)
refused_apart own theirs origin number tells world fits fits_theirs =
    never_refused own.query own.parts theirs.parts origin number tells.1 world fits
    (subst (λ q. Fits world (record { query = q; parts = theirs.parts })) tells.0 fits_theirs)

pub join_agree : (honest : Bool) (own theirs : Held) (result : Result Parts MergeError) → JoinsReplicas honest own theirs result
    → IfErr result (λ e. (origin : ℕ) (number : Option ℕ) → e ≡ Join origin (OriginDisagrees number) → (world : World) → Fits world own
    → ¬ (Fits world theirs))
join_agree honest own theirs result is =
    IfErr-weaker result (λ e. MergeTells e own theirs) _
    (λ e tells origin number same. refused_apart own theirs origin number (subst (λ w. MergeTells w own theirs) same tells)) is.refused

-- after a merge a replica knows what either knew
pub merged_told : (honest : Bool) (old other new : Held) → MergesHeld honest old other new
    → told new.parts ≡ union (told old.parts) (told other.parts)
merged_told honest old other new is =
    merges_told honest old.query old.parts other.parts new.parts is.held is.other_held is.new_held.rising is.merges

-- over an honest disk, it fits each world that both fitted
pub merged_fits : (honest : Bool) (old other new : Held) → MergesHeld honest old other new → IsTrue honest → (world : World)
    → IsWorld (kinds old.query.columns) world → Fits world old → Fits world other → Fits world new
merged_fits honest old other new is so world of fits fits_other =
    subst (λ q. Fits world (record { query = q; parts = new.parts })) (sym is.asked)
    (merges_fit honest so old.query old.parts other.parts new.parts is.merges world of fits
    (subst (λ q. Fits world (record { query = q; parts = other.parts })) is.same fits_other))

module _ {T : Type 0} (honest : Bool) (old other new : Held) (result : Result T MergeError)
    (m : MergesReplicas honest old other new result) where
  -- the same by a merge's result
  pub merge_told : OnOk result (told new.parts ≡ union (told old.parts) (told other.parts))
  merge_told = IfOk-weaker result (λ _. MergesHeld honest old other new) _ (λ _ is. merged_told honest old other new is) m.merged

  pub merge_fits : OnOk result (IsTrue honest → (world : World) → IsWorld (kinds old.query.columns) world → Fits world old
      → Fits world other → Fits world new)
  merge_fits = IfOk-weaker result (λ _. MergesHeld honest old other new) _ (λ _ is. merged_fits honest old other new is) m.merged

  pub merge_agree : IfErr result (λ e. (origin : ℕ) (number : Option ℕ) → e ≡ Join origin (OriginDisagrees number) → (world : World)
      → Fits world old → ¬ (Fits world other))
  merge_agree = IfErr-weaker result (λ e. MergeTells e old other) _
      (λ e tells origin number same. refused_apart old other origin number (subst (λ w. MergeTells w old other) same tells)) m.refused
