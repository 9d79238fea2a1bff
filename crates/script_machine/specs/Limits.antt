-- The limit of the aggregations of a script: the one set last, and before that the default. All of this is our own.
use Rattle.std.specs.Prelude.{ℕ, ◌≡◌, List, Some}
use Rattle.grouping_model.specs.Query.{Query}
use Rattle.batch_reader.specs.Rows.{packings}
use Rattle.packed_rows.specs.Columns.{kinds}
use Rattle.having_filter.specs.Meaning.{meaning}
use Rattle.aggregation_cost.specs.Space.{Setting}
use Rattle.key_hashes.specs.Hashes.{fnv_1a}
use Rattle.hash_agg.specs.Counting.{AreCounted, no_work}
use Rattle.hash_agg.specs.Inputs.{Brought}
use Rattle.hash_agg.specs.Passes.{setting_for}
use Rattle.hash_agg.specs.declared.work.Work.{Work}
use Rattle.origin_prefix.specs.Parts.{aggregations_on}
use Rattle.replica_merge.specs.Counting.{MergeIsCounted}
use Rattle.replica_merge.specs.Replicas.{Held, part_of}
use Rattle.script_io.specs.Records.{Record}
use Rattle.script_commands.specs.Commands.{Request, Feed, Merge}
use Rattle.refusals.specs.Batches.{Fed, IsBatch}
use Rattle.refusals.specs.declared.refusal.Refusal.TheVariants.{Batch, NoSuchName}
use Rattle.replies.specs.declared.reply.Reply.{Reply}
use Rattle.replies.specs.declared.reply.Reply.TheVariants as says
use Rattle.script_machine.specs.Views.{Store, replica_at}

-- a limit, and the hash function of scripts, for the groups of a query
abbrev pub setting_at : ℕ → Query → Setting
setting_at limit query = setting_for query limit fnv_1a

-- at this limit just these aggregations were made, one after the other, by the pages that were written
abbrev pub Worked : Query → ℕ → List (List Brought) → (writes written : ℕ) → Type 0
Worked query limit aggregations writes written = (work : Work) × AreCounted aggregations query (setting_at limit query) no_work writes work
    written

-- those of a batch that a replica takes
pub record FeedWorked (held : Held) (limit : ℕ) (origin number : List ℕ) (told : ℕ) (owned : List Record) (writes written : ℕ) :
    Type 0 where
  pub fed : Fed
  pub is_batch : IsBatch (kinds held.query.columns) origin number told owned fed
  pub worked : Worked (meaning held.query) limit (aggregations_on (part_of held.parts fed.origin) fed.number (packings fed.rows)) writes
      written

-- those of a replica that takes in another
abbrev pub MergeWorked : Held → Held → ℕ → (writes written : ℕ) → Type 0
MergeWorked own theirs limit writes written =
    (work : Work) × MergeIsCounted own.parts theirs.parts (meaning own.query) (setting_at limit (meaning own.query)) no_work writes work
    written

-- those of a command that is answered so, at the limit of what was there before it: a feed and a merge that aren't refused make just the
-- aggregations that they need; a feed that is no batch, or to no replica, a merge that lacks a replica, and any other command write nothing
abbrev pub WorksAtLimit : Store → Request → List Record → Reply → (writes written : ℕ) → Type 0
WorksAtLimit old (Feed name origin number told) owned (says.Delivered delivered) writes written =
    (held : Held) × (replica_at old name ≡ Some held) × FeedWorked held old.limit origin number told owned writes written
WorksAtLimit old (Feed name origin number told) owned (says.Refused NoSuchName) writes written = written ≡ writes
WorksAtLimit old (Feed name origin number told) owned (says.Refused (Batch error)) writes written = written ≡ writes
WorksAtLimit old (Feed name origin number told) owned reply writes written = Unit {0}
WorksAtLimit old (Merge into from) owned says.Merged writes written =
    (own theirs : Held) × (replica_at old into ≡ Some own) × (replica_at old from ≡ Some theirs)
    × MergeWorked own theirs old.limit writes written
WorksAtLimit old (Merge into from) owned (says.Refused NoSuchName) writes written = written ≡ writes
WorksAtLimit old (Merge into from) owned reply writes written = Unit {0}
WorksAtLimit old request owned reply writes written = written ≡ writes
