use Rattle.replica_merge.specs.DeliveryLaws as laws
use Rattle.replica_merge.proofs.laws.delivered_batch.Goals as goal

pub returns : goal.returns
returns c = λ honest old new batch result d. record {
  held = laws.delivery_held honest old new batch result d;
  reply = laws.delivery_reply honest old new batch result d;
  learns = laws.delivery_told honest old new batch result d;
  fits = laws.delivery_fits honest old new batch result d;
  agreed = laws.delivery_agreed honest old new batch result d;
  refused = laws.delivery_refused honest old new batch result d;
  tells = laws.delivery_tells honest old new batch result d;
  unknown = laws.delivery_unknown honest old new batch result d;
  agrees = laws.delivery_agrees honest old new batch result d;
}
