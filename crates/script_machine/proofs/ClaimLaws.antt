-- What the replies to `answer`, `feed` and `merge` mean.
use Rattle.std.specs.Prelude.{◌≡◌, refl, ℕ, true, List, [], Some, unwrap_or}
use Rattle.std.proofs.Common.{subst}
use Rattle.std.specs.Str.{bytes_eq}
use Rattle.std.proofs.lemmas.Slice.Eq.{bytes_eq-Decides}
use Rattle.script_machine.proofs.Words.{As, As_nothing, Column, Fed, IsBatch, Knowledge, Record, State, after, kinds, learn, union}
use Rattle.script_machine.proofs.BatchLaws.{one_fed}
use Rattle.script_machine.proofs.Reasons.{merge_reply}
use Rattle.script_machine.specs.Headline.{Claim}
use Rattle.script_machine.specs.Machine as machine
use Rattle.script_machine.specs.Machine.{Reply}

itself : (name : List ℕ) → bytes_eq name name ≡ true
itself name = (bytes_eq-Decides name name).1 refl

feed_learns : (old : State) (columns : List Column) (known : Knowledge) (name origin number : List ℕ) (told : ℕ) (owned : List Record)
    (fed : Fed) (reply : Reply) → old.replicas name ≡ Some known → IsBatch (kinds columns) origin number told owned fed
    → machine.FeedReply columns (Some known) name origin number told owned reply
    → (after old reply).replicas name ≡ Some (learn known (fed.origin, fed.number))
feed_learns old columns known name origin number told owned fed reply knows is (As what so says) =
    let same : what ≡ fed = one_fed (kinds columns) origin number told owned what fed so is in
    rw (says, same, itself name, knows) refl
feed_learns old columns known name origin number told owned fed reply knows is (As_nothing none why says) = absurd (none fed is)

merge_unites : (old : State) (known more : Knowledge) (into from : List ℕ) (reply : Reply) → old.replicas into ≡ Some known
    → old.replicas from ≡ Some more → reply ≡ merge_reply (old.replicas into) (old.replicas from) into from
    → (after old reply).replicas into ≡ Some (union known more)
merge_unites old known more into from reply knows other says =
    let merged : reply ≡ machine.Merged into from = rw (says, knows, other) refl in
    rw (merged, itself into, knows, other) refl

pub claim : Claim
claim = record {
  answer = λ history old query known name owned reply asked knows says. rw (says, asked, knows) refl;
  feed = λ old columns known name origin number told owned fed reply told_columns knows is says.
      let by_columns =
      subst (λ c. machine.FeedReply (unwrap_or c []) (old.replicas name) name origin number told owned reply) told_columns says in
      feed_learns old columns known name origin number told owned fed reply knows is
      (subst (λ k. machine.FeedReply columns k name origin number told owned reply) knows by_columns);
  merge = λ old known more into from owned reply knows other says. merge_unites old known more into from reply knows other says;
  refused = λ old why. refl;
}
