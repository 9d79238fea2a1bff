-- Laws: what follows, in the words of commands, where a batch that was read was delivered to a replica, or two replicas were joined.
use Rattle.std.specs.Prelude.{◌≡◌, ◌≢◌, ℕ, Bool, false, Option, Some, Ok, Err}
use Rattle.std.proofs.Common.{ap, sym, subst}
use Rattle.grouping_model.specs.World.{World, knows}
use Rattle.grouping_model.specs.declared.delivered.Delivered.{Delivered}
use Rattle.batch_reader.specs.declared.batch.Batch.{Batch}
use Rattle.origin_prefix.specs.Parts.{BatchTells, Disagrees}
use Rattle.origin_prefix.specs.declared.error.RefusedBatch.{RefusedBatch}
use Rattle.replica_merge.specs.DeliveryLaws.{delivery_reply, delivery_told, delivery_fits, delivery_unknown, delivery_agrees}
use Rattle.replica_merge.specs.MergeLaws.{refused_apart}
use Rattle.replica_merge.specs.Replicas.{Held, Fits, MergeTells, part_of, told}
use Rattle.replica_merge.specs.Results.{DeliversBatch}
use Rattle.refusals.specs.BatchLaws.{fed_of, read_is_fed}
use Rattle.refusals.specs.Batches.{IsOfBatch, IsOtherRead, TakesRead}
use Rattle.refusals.specs.Lemmas.UntakenLaws.{other_why, told_of, by_spill, not_of_batch, told_disagreement}
use Rattle.refusals.specs.Refusals.{refused_batch, IsApart}
use Rattle.refusals.specs.declared.refusal.Refusal.TheVariants.{OriginDisagrees}

-- whatever fields and records the batch was read of, it is their batch that the replica takes
pub taken_read : (honest : Bool) (old : Held) (batch : Batch) (new : Held) (delivered : Delivered)
    → DeliversBatch honest old batch new (Ok delivered) → TakesRead honest batch old new delivered
taken_read honest old batch new delivered d = λ origin number told_rows owned read.
    record {
      fed = fed_of batch read.rows;
      is_batch = read_is_fed _ origin number told_rows owned batch read;
      reply = delivery_reply honest old new batch (Ok delivered) d;
      learns = delivery_told honest old new batch (Ok delivered) d;
      fits = λ so world is fits there. delivery_fits honest old new batch (Ok delivered) d so world read.rows is fits there read.packed;
      asked = d.asked;
    }

module _ (honest : Bool) (old : Held) (batch : Batch) (new : Held) (refused : RefusedBatch)
    (d : DeliversBatch honest old batch new (Err refused)) where
  -- it is never refused for what it says, only for what the replica holds, because memory ran out, or by the disk
  pub refused_not_of_batch : ¬ (IsOfBatch (refused_batch refused))
  refused_not_of_batch = not_of_batch refused.batch.origin refused.why

  -- nothing but a disagreement is reported for a number that is known already
  pub refused_unknown : ((of : ℕ) (at : Option ℕ) → refused_batch refused ≢ OriginDisagrees of at)
      → knows (told old.parts) (batch.origin, batch.number) ≡ false
  refused_unknown other =
      let spill = by_spill refused.batch.origin refused.why other in
      delivery_unknown honest old new batch (Err refused) d spill.0 spill.1

  -- a disagreement names the batch's origin and number, which the replica holds with other rows
  pub refused_disagrees : (of : ℕ) (at : Option ℕ) → refused_batch refused ≡ OriginDisagrees of at
      → (of ≡ batch.origin) × (at ≡ Some batch.number) × Disagrees (part_of old.parts batch.origin) batch.number batch.rows
  refused_disagrees of at is =
      let tells = subst (λ why. BatchTells why (part_of old.parts batch.origin) batch.number batch.rows)
      (other_why refused.batch.origin refused.why of at is) d.refused.tells in (
        told_of refused.batch.origin batch.origin refused.why of at is (ap (λ (b : Batch). b.origin) d.refused.back),
        tells.0,
        tells.1,
      )

  -- no world that the replica fits has a batch that disagrees
  pub refused_other : (of : ℕ) (at : Option ℕ) → refused_batch refused ≡ OriginDisagrees of at → IsOtherRead batch old
  refused_other of at is = λ origin number told_rows owned read.
      record {
        fed = fed_of batch read.rows;
        is_batch = read_is_fed _ origin number told_rows owned batch read;
        never = λ world fits there.
            delivery_agrees honest old new batch (Err refused) d at (other_why refused.batch.origin refused.why of at is) world read.rows
            fits there read.packed;
      }

-- replicas that fit one world never disagree
pub apart_never_fit : (own theirs : Held) (of : ℕ) (at : Option ℕ) → IsApart own theirs (OriginDisagrees of at) → (world : World)
    → Fits world own → ¬ (Fits world theirs)
apart_never_fit own theirs of at (error, named, tells) =
    refused_apart own theirs of at (subst (λ e. MergeTells e own theirs) (told_disagreement error of at (sym named)) tells)
