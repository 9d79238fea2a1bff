-- The promises of a replica's calls, by their results. Laws say what follows from them (DeliveryLaws, MergeLaws). All of this is our own.
use Rattle.std.specs.Prelude.{◌≡◌, ◌≢◌, ℕ, Bool, List, Result, IfOk, IfErr, OnOk}
use Rattle.grouping_model.specs.Replies.{InLimits}
use Rattle.grouping_model.specs.declared.delivered.Delivered.{Delivered}
use Rattle.batch_reader.specs.declared.batch.Batch.{Batch}
use Rattle.origin_prefix.specs.declared.error.RefusedBatch.{RefusedBatch}
use Rattle.summary_codec.specs.Reading.{IsSummary, HasFault}
use Rattle.summary_codec.specs.declared.error.SummaryError.{SummaryError}
use Rattle.summary_codec.specs.declared.error.SummaryError.TheVariants.{NoMemory}
use Rattle.replica_merge.specs.Replicas.{Parts, Held, AreHeldParts, DeliversAt, RefusesAt, JoinedAside, MergesParts, DisagreeSomewhere}
use Rattle.replica_merge.specs.Replicas.{MergeTells}
use Rattle.replica_merge.specs.declared.error.MergeError.{MergeError}

-- a batch within the limits is delivered to a replica, over a tape disk that may be honest. The part of its origin takes it and the
-- others stay; or it is refused and handed back, and nothing changes
pub record DeliversBatch (honest : Bool) (old : Held) (batch : Batch) (new : Held) (result : Result Delivered RefusedBatch) : Type 0 where
  pub held : AreHeldParts old.query old.parts
  pub limits : InLimits (batch.origin, batch.number)
  pub asked : new.query ≡ old.query
  pub taken : IfOk result (DeliversAt honest old.query old.parts batch.origin batch.number batch.rows new.parts)
  pub refused : IfErr result (RefusesAt old.parts batch new.parts)

-- what two replicas of one query hold together, built apart from both
pub record JoinsHeld (honest : Bool) (own theirs : Held) (joined : Parts) : Type 0 where
  pub same : theirs.query ≡ own.query
  pub held : AreHeldParts own.query theirs.parts
  pub aside : JoinedAside honest own.query own.parts theirs.parts joined

-- two replicas are joined apart from both, or why they are not
pub record JoinsReplicas (honest : Bool) (own theirs : Held) (result : Result Parts MergeError) : Type 0 where
  pub joined : IfOk result (JoinsHeld honest own theirs)
  pub refused : IfErr result (λ error. MergeTells error own theirs)

-- a replica takes in another of its query, with which it disagrees nowhere: the parts of both are joined
pub record MergesHeld (honest : Bool) (old other new : Held) : Type 0 where
  pub same : other.query ≡ old.query
  pub asked : new.query ≡ old.query
  pub held : AreHeldParts old.query old.parts
  pub other_held : AreHeldParts old.query other.parts
  pub new_held : AreHeldParts old.query new.parts
  pub agree : ¬ (DisagreeSomewhere old.parts other.parts)
  pub merges : MergesParts honest old.query old.parts other.parts new.parts

-- a replica takes in another, or why it does not, and then nothing changes
pub record MergesReplicas {T : Type 0} (honest : Bool) (old other new : Held) (result : Result T MergeError) : Type 0 where
  pub merged : OnOk result (MergesHeld honest old other new)
  pub refused : IfErr result (λ error. MergeTells error old other)
  pub same : IfErr result (λ error. new ≡ old)

-- bytes are a summary file of what a replica holds, and of nothing else: so a saved replica is loaded as itself
pub record IsLoaded (bytes : List ℕ) (held : Held) : Type 0 where
  pub summary : IsSummary bytes held.query held.parts
  pub only : (other : Held) → IsSummary bytes other.query other.parts → held ≡ other

-- bytes are loaded as the replica whose summary file they are, or refused by their first fault, unless memory ran out
pub record LoadsReplica (bytes : List ℕ) (result : Result Held SummaryError) : Type 0 where
  pub loaded : IfOk result (IsLoaded bytes)
  pub fault : IfErr result (λ error. error ≢ NoMemory → HasFault bytes error)
