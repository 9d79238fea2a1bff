-- Laws: what follows where a batch file was fed to a replica, or a summary file was merged into one.
use Rattle.std.specs.Prelude.{◌≡◌, ◌≢◌, ℕ, Bool, List, Option, Result, Ok, Err, IfOk, IfErr, OnOk, OnErr, IsTrue}
use Rattle.std.proofs.Common.{◌∙◌, sym, subst, inl, inr}
use Rattle.grouping_model.specs.World.{World, IsWorld, union}
use Rattle.grouping_model.specs.declared.delivered.Delivered.{Delivered}
use Rattle.packed_rows.specs.Columns.{kinds}
use Rattle.batch_reader.specs.File.{BatchFile}
use Rattle.replica_merge.specs.DeliveryLaws.{delivery_agreed, delivery_refused}
use Rattle.replica_merge.specs.MergeLaws.{merged_told, merged_fits}
use Rattle.replica_merge.specs.Replicas.{Held, Fits, MergesParts, DisagreeSomewhere, told}
use Rattle.summary_codec.specs.Reading.{IsSummary}
use Rattle.refusals.specs.Batches.{IsOfBatch}
use Rattle.refusals.specs.FeedLaws.{taken_read, refused_not_of_batch, refused_unknown, refused_disagrees, refused_other, apart_never_fit}
use Rattle.refusals.specs.RefusalLaws.{batch_own, batch_never_disagrees}
use Rattle.refusals.specs.Refusals.{IsApart}
use Rattle.refusals.specs.declared.refusal.Refusal.{Refusal}
use Rattle.refusals.specs.declared.refusal.Refusal.TheVariants.{NoMemory, OriginDisagrees}
use Rattle.command_replicas.specs.Commands.{TakesFile, DeliversFile, FileAgrees, FileDisagrees, IsNewFile, IsNoBatchFile, IsNotMerged}
use Rattle.command_replicas.specs.Commands.{IsNoSummary, IsOtherFile}
use Rattle.command_replicas.specs.Lemmas.FileLaws.{takes_file, of_batch_file, other_file, unread_why}
use Rattle.command_replicas.specs.Results.{Feeds, MergesFile}

-- ---- a batch file

-- the replica takes the batch of the file, and the part of its origin does; the others stay
pub feed_took : (honest : Bool) (file : Option BatchFile) (old new : Held) (result : Result Delivered Refusal)
    → Feeds honest file old new result → IfOk result (TakesFile honest file old new)
feed_took honest file old new (Ok delivered) f =
    takes_file honest file f.batch old new delivered f.is_read (taken_read honest old f.batch new delivered f.delivers)
feed_took honest file old new (Err why) f = tt

pub feed_delivers : (honest : Bool) (file : Option BatchFile) (old new : Held) (result : Result Delivered Refusal)
    → Feeds honest file old new result → IfOk result (DeliversFile honest file old new)
feed_delivers honest file old new (Ok delivered) f = of_batch_file file old _ f.batch f.is_read f.delivers.taken
feed_delivers honest file old new (Err why) f = tt

-- a refusal changes nothing
pub feed_same : (honest : Bool) (file : Option BatchFile) (old new : Held) (result : Result Delivered Refusal)
    → Feeds honest file old new result → OnErr result (new ≡ old)
feed_same honest file old new (Ok delivered) f = tt
feed_same honest file old new (Err why) (inl unread) = unread.same
feed_same honest file old new (Err why) (inr (refused, named, fed)) =
    (delivery_refused honest old new fed.batch (Err refused) fed.delivers).1

-- why the file is not a batch file, where what is refused is of the batch
pub feed_why : (honest : Bool) (file : Option BatchFile) (old new : Held) (result : Result Delivered Refusal)
    → Feeds honest file old new result → IfErr result (λ why. IsOfBatch why → IsNoBatchFile (kinds old.query.columns) file why)
feed_why honest file old new (Ok delivered) f = tt
feed_why honest file old new (Err why) (inl unread) = λ of. subst (IsNoBatchFile (kinds old.query.columns) file) (sym unread.named)
    (unread_why (kinds old.query.columns) file unread.error unread.fault (subst IsOfBatch unread.named of))
feed_why honest file old new (Err why) (inr (refused, named, fed)) = λ of.
    absurd (refused_not_of_batch honest old fed.batch new refused fed.delivers (subst IsOfBatch named of))

-- of a batch whose number is known already, nothing but disagreement is told
pub feed_unknown : (honest : Bool) (file : Option BatchFile) (old new : Held) (result : Result Delivered Refusal)
    → Feeds honest file old new result
    → IfErr result (λ why. why ≢ NoMemory → ¬ (IsOfBatch why) → ((of : ℕ) (at : Option ℕ) → why ≢ OriginDisagrees of at)
    → IsNewFile file old)
feed_unknown honest file old new (Ok delivered) f = tt
feed_unknown honest file old new (Err why) (inl unread) = λ there own agrees.
    absurd (own (subst IsOfBatch (sym unread.named) (batch_own unread.error (subst (λ w. w ≢ NoMemory) unread.named there))))
feed_unknown honest file old new (Err why) (inr (refused, named, fed)) = λ there own agrees.
    of_batch_file file old _ fed.batch fed.is_read (refused_unknown honest old fed.batch new refused fed.delivers
    (subst (λ w. (of : ℕ) (at : Option ℕ) → w ≢ OriginDisagrees of at) named agrees))

-- a batch that disagrees is never taken, and disagreement is told of no other
pub feed_agreed : (honest : Bool) (file : Option BatchFile) (old new : Held) (result : Result Delivered Refusal)
    → Feeds honest file old new result → OnOk result (FileAgrees file old)
feed_agreed honest file old new (Ok delivered) f =
    of_batch_file file old _ f.batch f.is_read (delivery_agreed honest old new f.batch (Ok delivered) f.delivers)
feed_agreed honest file old new (Err why) f = tt

pub feed_disagree : (honest : Bool) (file : Option BatchFile) (old new : Held) (result : Result Delivered Refusal)
    → Feeds honest file old new result
    → IfErr result (λ why. (of : ℕ) (at : Option ℕ) → why ≡ OriginDisagrees of at → FileDisagrees file old of at)
feed_disagree honest file old new (Ok delivered) f = tt
feed_disagree honest file old new (Err why) (inl unread) = λ of at is.
    absurd (batch_never_disagrees unread.error of at (sym unread.named ∙ is))
feed_disagree honest file old new (Err why) (inr (refused, named, fed)) = λ of at is.
    of_batch_file file old _ fed.batch fed.is_read (refused_disagrees honest old fed.batch new refused fed.delivers of at (sym named ∙ is))

-- no world that the replica fits has a batch that disagrees
pub feed_other : (honest : Bool) (file : Option BatchFile) (old new : Held) (result : Result Delivered Refusal)
    → Feeds honest file old new result
    → IfErr result (λ why. (of : ℕ) (at : Option ℕ) → why ≡ OriginDisagrees of at → IsOtherFile file old)
feed_other honest file old new (Ok delivered) f = tt
feed_other honest file old new (Err why) (inl unread) = λ of at is.
    absurd (batch_never_disagrees unread.error of at (sym unread.named ∙ is))
feed_other honest file old new (Err why) (inr (refused, named, fed)) = λ of at is.
    other_file file fed.batch old fed.is_read (refused_other honest old fed.batch new refused fed.delivers of at (sym named ∙ is))

-- ---- a summary file

module _ {T : Type 0} (honest : Bool) (file : List ℕ) (old new : Held) where
  -- the parts of both are joined, afterwards the replica knows the union, and over an honest disk it fits each world that both fitted
  pub merge_joined : (result : Result T Refusal) → MergesFile honest file old new result
      → OnOk result ((other : Held) × IsSummary file other.query other.parts × ¬ (DisagreeSomewhere old.parts other.parts)
      × MergesParts honest old.query old.parts other.parts new.parts × (new.query ≡ old.query) × (other.query ≡ old.query))
  merge_joined (Ok done) (other, loaded, held) = (other, loaded.summary, held.agree, held.merges, held.asked, held.same)
  merge_joined (Err why) m = tt

  pub merge_told : (result : Result T Refusal) → MergesFile honest file old new result
      → OnOk result ((other : Held) × IsSummary file other.query other.parts × (told new.parts ≡ union (told old.parts) (told other.parts)))
  merge_told (Ok done) (other, loaded, held) = (other, loaded.summary, merged_told honest old other new held)
  merge_told (Err why) m = tt

  pub merge_fits : (result : Result T Refusal) → MergesFile honest file old new result
      → OnOk result (IsTrue honest → (world : World) → IsWorld (kinds old.query.columns) world → Fits world old → (other : Held)
      → IsSummary file other.query other.parts → Fits world other → Fits world new)
  merge_fits (Ok done) (read, loaded, held) = λ so world of fits other is fits_other.
      merged_fits honest old read new held so world of fits (subst (Fits world) (sym (loaded.only other is)) fits_other)
  merge_fits (Err why) m = tt

  -- a refusal changes nothing, and why it is
  pub merge_same : (result : Result T Refusal) → MergesFile honest file old new result → OnErr result (new ≡ old)
  merge_same (Ok done) m = tt
  merge_same (Err why) (inl none) = none.0
  merge_same (Err why) (inr apart) = apart.same

  pub merge_why : (result : Result T Refusal) → MergesFile honest file old new result → IfErr result (IsNotMerged file old)
  merge_why (Ok done) m = tt
  merge_why (Err why) (inl none) = inl none.1
  merge_why (Err why) (inr apart) = inr (apart.other, apart.loaded.summary, apart.apart)

  -- replicas that fit one world never disagree
  pub merge_agree : (result : Result T Refusal) → MergesFile honest file old new result
      → IfErr result (λ why. (of : ℕ) (at : Option ℕ) → why ≡ OriginDisagrees of at → (world : World) → Fits world old → (other : Held)
      → IsSummary file other.query other.parts → ¬ (Fits world other))
  merge_agree (Ok done) m = tt
  merge_agree (Err why) (inl none) = λ of at is. absurd (subst (IsNoSummary file) is none.1)
  merge_agree (Err why) (inr apart) = λ of at is world fits other is_file fits_other.
      apart_never_fit old apart.other of at (subst (IsApart old apart.other) is apart.apart) world fits
      (subst (Fits world) (sym (apart.loaded.only other is_file)) fits_other)
