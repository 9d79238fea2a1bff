-- When the feeds and merges of a script report a disagreement, or a failure of the tape disk. All of this is our own.
use Rattle.std.specs.Prelude.{ℕ, ◌≡◌, List, Option, Some}
use Rattle.packed_rows.specs.Columns.{kinds}
use Rattle.batch_reader.specs.Rows.{packings}
use Rattle.origin_prefix.specs.Parts.{BatchTells, Disagrees}
use Rattle.origin_prefix.specs.declared.error.JoinError.TheVariants.{Spill}
use Rattle.replica_merge.specs.Replicas.{DisagreeSomewhere, Held, part_of}
use Rattle.script_io.specs.Records.{Record}
use Rattle.script_commands.specs.Commands.{Request, Feed, Merge}
use Rattle.refusals.specs.Batches.{Fed, IsBatch}
use Rattle.refusals.specs.Refusals.{IsApart}
use Rattle.refusals.specs.declared.refusal.Refusal.{Refusal}
use Rattle.refusals.specs.declared.refusal.Refusal.TheVariants.{OriginDisagrees, TapeDamaged, TapeFault}
use Rattle.replies.specs.declared.reply.Reply.{Reply}
use Rattle.replies.specs.declared.reply.Reply.TheVariants as says
use Rattle.spill_partitions.specs.declared.error.SpillError.{SpillError}
use Rattle.spill_partitions.specs.declared.error.SpillError.TheVariants as spill
use Rattle.script_machine.specs.Views.{Store, replica_at}

-- a feed reads as a batch of this origin and number, which the replica holds early with other rows
pub record FeedApart (held : Held) (origin number : List ℕ) (told : ℕ) (owned : List Record) (of : ℕ) (at : Option ℕ) : Type 0 where
  pub fed : Fed
  pub is_batch : IsBatch (kinds held.query.columns) origin number told owned fed
  pub of_origin : of ≡ fed.origin
  pub at_number : at ≡ Some fed.number
  pub disagrees : Disagrees (part_of held.parts fed.origin) fed.number (packings fed.rows)

-- a feed reads as a batch that the replica doesn't hold with other rows
pub record FeedAlike (held : Held) (origin number : List ℕ) (told : ℕ) (owned : List Record) : Type 0 where
  pub fed : Fed
  pub is_batch : IsBatch (kinds held.query.columns) origin number told owned fed
  pub alike : ¬ (Disagrees (part_of held.parts fed.origin) fed.number (packings fed.rows))

-- a feed reads as a batch that the replica would take if its tape disk had not failed so
pub record FeedFails (held : Held) (origin number : List ℕ) (told : ℕ) (owned : List Record) (error : SpillError) : Type 0 where
  pub fed : Fed
  pub is_batch : IsBatch (kinds held.query.columns) origin number told owned fed
  pub untaken : BatchTells (Spill error) (part_of held.parts fed.origin) fed.number (packings fed.rows)

-- a replica of this name is there, and so is what it holds
abbrev pub IsHeldAt : Store → List ℕ → (Held → Type 0) → Type 0
IsHeldAt store name holds = (held : Held) × (replica_at store name ≡ Some held) × holds held

-- the replica of the first name doesn't take in that of the second, for this reason
abbrev pub MergeApart : Store → (into from : List ℕ) → Refusal → Type 0
MergeApart old into from why = IsHeldAt old into (λ own. IsHeldAt old from (λ theirs. IsApart own theirs why))

-- when a reply reports a disagreement. A feed is refused for it only if the batch disagrees, and taken only if it doesn't. A merge is
-- refused for it only if the two replicas disagree, at the first origin where they do. It is done only if they don't. A failure of the tape
-- disk is reported only of a batch that would have been taken without it, and of a merge only at an origin whose parts agree
abbrev pub TellsDisagreement : Store → Request → List Record → Reply → Type 0
TellsDisagreement old (Feed name origin number told) owned (says.Refused (OriginDisagrees of at)) = IsHeldAt old name
    (λ held. FeedApart held origin number told owned of at)
TellsDisagreement old (Feed name origin number told) owned (says.Refused TapeFault) = IsHeldAt old name
    (λ held. FeedFails held origin number told owned spill.TapeFault)
TellsDisagreement old (Feed name origin number told) owned (says.Refused TapeDamaged) = IsHeldAt old name
    (λ held. FeedFails held origin number told owned spill.TapeDamaged)
TellsDisagreement old (Feed name origin number told) owned (says.Delivered delivered) = IsHeldAt old name
    (λ held. FeedAlike held origin number told owned)
TellsDisagreement old (Merge into from) owned (says.Refused (OriginDisagrees of at)) = MergeApart old into from (OriginDisagrees of at)
TellsDisagreement old (Merge into from) owned (says.Refused TapeFault) = MergeApart old into from TapeFault
TellsDisagreement old (Merge into from) owned (says.Refused TapeDamaged) = MergeApart old into from TapeDamaged
TellsDisagreement old (Merge into from) owned says.Merged = IsHeldAt old into
    (λ own. IsHeldAt old from (λ theirs. ¬ (DisagreeSomewhere own.parts theirs.parts)))
TellsDisagreement old request owned reply = Unit {0}
