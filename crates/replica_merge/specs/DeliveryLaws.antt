-- Laws: what follows from the delivery of a batch to a replica.
use Rattle.std.specs.Prelude.{◌≡◌, ◌≢◌, ℕ, Bool, false, List, Option, Some, Result, Ok, Err, IfOk, IfErr, OnOk, IsTrue}
use Rattle.std.proofs.Common.{◌∙◌, sym, subst}
use Rattle.std.proofs.lemmas.Result.{IfOk-weaker, IfErr-weaker}
use Rattle.replica_merge.specs.Lemmas.Words.{Row, reply_of, World, IsWorld, knows, learn, kinds, packings}
use Rattle.replica_merge.specs.Lemmas.Words.{Disagrees, BatchTells, OriginDisagrees, Spill, Held, part_of, told, Fits, AreHeldParts}
use Rattle.replica_merge.specs.Lemmas.Words.{DeliversAt, RefusesAt}
use Rattle.grouping_model.specs.declared.delivered.Delivered.{Delivered}
use Rattle.batch_reader.specs.declared.batch.Batch.{Batch}
use Rattle.spill_partitions.specs.declared.error.SpillError.{SpillError}
use Rattle.origin_prefix.specs.declared.error.RefusedBatch.{RefusedBatch}
use Rattle.replica_merge.specs.Lemmas.ToldLaws.{told_is}
use Rattle.replica_merge.specs.Lemmas.DeliveredLaws.{part_is, delivered_held, delivered_told, delivered_reply, delivered_fits}
use Rattle.replica_merge.specs.Lemmas.DeliveredLaws.{taken_agrees, never_disagrees}
use Rattle.replica_merge.specs.Results.{DeliversBatch}

module _ (honest : Bool) (old new : Held) (batch : Batch) (result : Result Delivered RefusedBatch)
    (d : DeliversBatch honest old batch new result) where
  -- what is held of each origin afterwards are parts of the query
  pub delivery_held : AreHeldParts new.query new.parts
  delivery_held = subst (λ q. AreHeldParts q new.parts) (sym d.asked) (go result d.taken d.refused)
    where
      go : (r : Result Delivered RefusedBatch)
          → IfOk r (DeliversAt honest old.query old.parts batch.origin batch.number batch.rows new.parts)
          → IfErr r (RefusesAt old.parts batch new.parts) → AreHeldParts old.query new.parts
      go (Ok reply) taken refused =
          delivered_held honest old.query old.parts new.parts batch.origin batch.number batch.rows reply d.held d.limits taken
      go (Err e) taken refused = subst (AreHeldParts old.query) (sym refused.same) d.held

  -- the reply follows from what was known
  pub delivery_reply : IfOk result (λ reply. reply ≡ reply_of (told old.parts) (batch.origin, batch.number))
  delivery_reply = IfOk-weaker result (DeliversAt honest old.query old.parts batch.origin batch.number batch.rows new.parts) _
      (λ reply taken. delivered_reply honest old.query old.parts new.parts batch.origin batch.number batch.rows reply d.held d.limits taken)
      d.taken

  -- the batch is known from then on
  pub delivery_told : OnOk result (told new.parts ≡ learn (told old.parts) (batch.origin, batch.number))
  delivery_told = IfOk-weaker result (DeliversAt honest old.query old.parts batch.origin batch.number batch.rows new.parts) _
      (λ reply taken. delivered_told honest old.query old.parts new.parts batch.origin batch.number batch.rows reply d.held d.limits taken)
      d.taken

  -- over an honest disk, a replica that fits a world whose batch this is fits it still
  pub delivery_fits : OnOk result (IsTrue honest → (world : World) (those : List Row) → IsWorld (kinds old.query.columns) world
      → Fits world old → world batch.origin batch.number ≡ Some those → batch.rows ≡ packings those → Fits world new)
  delivery_fits = IfOk-weaker result (DeliversAt honest old.query old.parts batch.origin batch.number batch.rows new.parts) _
      (λ reply taken so world those is fits there same. subst (λ q. Fits world (record { query = q; parts = new.parts })) (sym d.asked)
      (delivered_fits honest so old.query old.parts new.parts batch.origin batch.number batch.rows reply d.held taken world those is fits
      there same)) d.taken

  -- a refused batch is handed back, and nothing changes
  pub delivery_refused : IfErr result (λ e. (e.batch ≡ batch) × (new ≡ old))
  delivery_refused = IfErr-weaker result (RefusesAt old.parts batch new.parts) _
      (λ e refused. (refused.back, λ i. record { query = d.asked i; parts = refused.same i })) d.refused

  -- why it is refused
  pub delivery_tells : IfErr result (λ e. BatchTells e.why (part_of old.parts batch.origin) batch.number batch.rows)
  delivery_tells = IfErr-weaker result (RefusesAt old.parts batch new.parts) _ (λ e refused. refused.tells) d.refused

  -- a disagreement is always reported
  pub delivery_agreed : OnOk result (¬ (Disagrees (part_of old.parts batch.origin) batch.number batch.rows))
  delivery_agreed = IfOk-weaker result (DeliversAt honest old.query old.parts batch.origin batch.number batch.rows new.parts) _
      (λ reply taken. taken_agrees honest old.query (part_of old.parts batch.origin) taken.part batch.number batch.rows reply
      (part_is old.query old.parts d.held batch.origin) taken.delivers) d.taken

  -- nothing but a disagreement is reported for a number that is known already
  pub delivery_unknown : IfErr result (λ e. (error : SpillError) → e.why ≡ Spill error
      → knows (told old.parts) (batch.origin, batch.number) ≡ false)
  delivery_unknown = IfErr-weaker result (RefusesAt old.parts batch new.parts) _
      (λ e refused error why. told_is old.parts d.held.rising batch.origin batch.number
      ∙ (subst (λ w. BatchTells w (part_of old.parts batch.origin) batch.number batch.rows) why refused.tells).0) d.refused

  -- the batch of a world that the replica fits never disagrees
  pub delivery_agrees : IfErr result (λ e. (told : Option ℕ) → e.why ≡ OriginDisagrees told → (world : World) (those : List Row)
      → Fits world old → world batch.origin batch.number ≡ Some those → batch.rows ≢ packings those)
  delivery_agrees = IfErr-weaker result (RefusesAt old.parts batch new.parts) _
      (λ e refused told why world those fits there. never_disagrees old.query old.parts batch.origin batch.number batch.rows
      (subst (λ w. BatchTells w (part_of old.parts batch.origin) batch.number batch.rows) why refused.tells).1 world those fits there)
      d.refused
