-- What a session does, by what its replica does, and by which limit.
use Rattle.std.specs.Prelude.{◌≡◌, ◌+◌, ◌≤◌, ℕ, List, Option, true, Result, Ok, Err, IfErr, OnErr, IsTrue, refl}
use Rattle.std.proofs.Common.{ap, arith, subst, sym, ◌∙◌, inr}
use Rattle.grouping_model.specs.declared.delivered.Delivered.{Delivered}
use Rattle.packed_rows.specs.Columns.{kinds}
use Rattle.batch_reader.specs.File.{BatchFile}
use Rattle.batch_reader.specs.declared.batch.Batch.{Batch}
use Rattle.having_filter.specs.Meaning.{meaning}
use Rattle.key_hashes.specs.Hashes.{fnv_1a}
use Rattle.tape_disks.specs.Memory.{MemoryState}
use Rattle.tape_disks.specs.contracts.mem_disk.MemDiskTapeDisk.TheImpl as memory
use Rattle.tape_disks.specs.declared.disk.TapeDisk.{Ghosts}
use Rattle.spill_partitions.specs.declared.error.SpillError.{SpillError}
use Rattle.hash_agg.specs.Counting.{HasGrown, AreCounted, setting_by}
use Rattle.hash_agg.specs.Lemmas.RanLaws.{Counting, ran_as, ran_weaker}
use Rattle.hash_agg.specs.Means.{MeansState}
use Rattle.hash_agg.specs.Passes.{setting_for}
use Rattle.hash_agg.specs.Ran.{Ran, Done, Ended, Refused, faults_of}
use Rattle.hash_agg.specs.declared.work.Work.{Work}
use Rattle.query_checks.specs.Checks.{Checked}
use Rattle.origin_prefix.specs.Errors.{join_reason}
use Rattle.origin_prefix.specs.Parts.{aggregations_on}
use Rattle.origin_prefix.specs.declared.error.RefusedBatch.{RefusedBatch}
use Rattle.replica_merge.specs.Counting.{MergeIsCounted}
use Rattle.replica_merge.specs.Errors.{merge_reason}
use Rattle.replica_merge.specs.Replicas.{MergeTells, part_of}
use Rattle.replica_merge.specs.Results.{DeliversBatch, MergesHeld}
use Rattle.replica_merge.specs.declared.error.MergeError.{MergeError}
use Rattle.refusals.specs.RefusalLaws.{join_reasons, merge_reasons}
use Rattle.refusals.specs.Refusals.{merge_refusal, refusal_ended, refusal_reason, refused_batch}
use Rattle.refusals.specs.declared.refusal.Refusal.{Refusal}
use Rattle.command_replicas.specs.Commands.{IsReadOf, FeedIsCounted, FileMergeIsCounted}
use Rattle.command_replicas.specs.Lemmas.FileLaws.{of_batch_file}
use Rattle.command_replicas.specs.ResultLaws.{feed_same, merge_same}
use Rattle.command_replicas.specs.Results.{Feeds, MergesFile}
use Rattle.engine.specs.Calls.{FeedsSession, MergesSession, MergesFileSession, KeepsMeans, RunsByLimit, IsUntaped}
use Rattle.engine.specs.Sessions.{SessionState}

-- two sessions that hold the same by the same means, and took the same, are one
session_is : (a b : SessionState) → a.held ≡ b.held → KeepsMeans b a → a.work ≡ b.work → a ≡ b
session_is a b held means work = λ i. record { held = held i; limit = means.limit i; seed = means.seed i; work = work i }

-- a call that counts on from the work of a session, and gives it back, ran by the session's
pub carried : {D H : Type 0} {g : Ghosts D} {hash_of : H → List ℕ → ℕ} {query : Checked} {means : MeansState H} {Counts : Counting}
    {ended : Ended} {before after : D} {begun done old new : Work} → begun ≡ old → new ≡ done
    → Ran g hash_of query means Counts ended before begun after done → Ran g hash_of query means Counts ended before old after new
carried {g = g} {hash_of = hash_of} {query = query} {means = means} {Counts = Counts} {ended = ended} {before = before} {after = after}
    {begun = begun} {new = new} start end ran =
    subst (λ w. Ran g hash_of query means Counts ended before w after new) start
    (subst (λ w. Ran g hash_of query means Counts ended before begun after w) (sym end) ran)

-- a refusal changes nothing
pub fed_same : (file : Option BatchFile) (old new : SessionState) (result : Result Delivered Refusal) → FeedsSession file old new result
    → OnErr result (new ≡ old)
fed_same file old new (Ok delivered) f = tt
fed_same file old new (Err why) f = session_is new old (feed_same true file old.held new.held (Err why) f.feeds) f.means f.ran.uncounted

pub merged_same : {T : Type 0} (other old new : SessionState) (result : Result T Refusal) → MergesSession other old new result
    → OnErr result (new ≡ old)
merged_same other old new (Ok done) m = tt
merged_same other old new (Err why) m = session_is new old m.merges.0 m.means m.ran.uncounted

pub merged_file_same : {T : Type 0} (file : List ℕ) (old new : SessionState) (result : Result T Refusal)
    → MergesFileSession file old new result → OnErr result (new ≡ old)
merged_file_same file old new (Ok done) m = tt
merged_file_same {T = T} file old new (Err why) m = session_is new old (merge_same {T = T} true file old.held new.held (Err why) m.merges)
    m.means m.ran.uncounted

module _ {D H T : Type 0} (g : Ghosts D) (means : MeansState H) (Counts : Counting) (old new : SessionState) (before after : D)
    (limit : means.limit ≡ old.limit) (honest : IsTrue (g.honest before)) (fresh : g.writes before ≡ 0) where
  -- a call that ran by means of the session's limit, over an honest disk that was never written, ran by this limit
  pub done_by_limit : (value : T) → Ran g (λ _ key. fnv_1a key) old.held.query means Counts Done before old.work after new.work
      → RunsByLimit Counts old new (Ok value)
  done_by_limit value ran =
      let query = meaning old.held.query in
      record {
        counted = (
          g.writes after,
          subst (λ n. Counts query (setting_for query old.limit fnv_1a) old.work n new.work (g.writes after)) fresh
              (subst (λ l. Counts query (setting_for query l fnv_1a) old.work (g.writes before) new.work (g.writes after)) limit
              (ran.counted honest)),
        );
        uncounted = tt;
        grown = subst (λ l. HasGrown l old.work new.work) limit ran.grown;
      }

  pub refused_by_limit : (reason : Option SpillError) (why : Refusal)
      → Ran g (λ _ key. fnv_1a key) old.held.query means Counts (Refused reason) before old.work after new.work
      → RunsByLimit {T = T} Counts old new (Err why)
  refused_by_limit reason why ran =
      record {
        counted = tt;
        uncounted = ran.uncounted;
        grown = subst (λ l. HasGrown l old.work new.work) limit ran.grown;
      }

  pub ran_by_limit : (result : Result T Refusal)
      → Ran g (λ _ key. fnv_1a key) old.held.query means Counts (refusal_ended result) before old.work after new.work
      → RunsByLimit Counts old new result
  ran_by_limit (Ok value) ran = done_by_limit value ran
  ran_by_limit (Err why) ran = refused_by_limit (refusal_reason why) why ran

  -- no tape failed or was damaged
  pub untaped : (result : Result T Refusal) → g.failures after ≡ g.failures before
      → Ran g (λ _ key. fnv_1a key) old.held.query means Counts (refusal_ended result) before old.work after new.work
      → IfErr result IsUntaped
  untaped (Ok value) sound ran = tt
  untaped (Err why) sound ran = (
    λ e. let failed = subst (λ w. g.failures after ≡ g.failures before + faults_of (Refused (refusal_reason w))) e ran.disk.failures in
        omega (arith, sound, failed),
    λ e. ran.undamaged honest (ap (λ w. Refused (refusal_reason w)) e),
  )

-- a call ran by the means of its session, over tapes in memory that were never written
module _ {H : Type 0} (means : MeansState H) (old new : SessionState) (before after : MemoryState) (limit : means.limit ≡ old.limit)
    (fresh : before.count ≡ 0) (kept : KeepsMeans old new) where
  pub fed_by_limit : (file : Option BatchFile) (result : Result Delivered Refusal) → Feeds true file old.held new.held result
      → Ran memory.ghosts (λ _ key. fnv_1a key) old.held.query means (FeedIsCounted file old.held) (refusal_ended result) before old.work
      after new.work → FeedsSession file old new result
  fed_by_limit file result feeds ran =
      record {
        feeds = feeds;
        ran = ran_by_limit memory.ghosts means (FeedIsCounted file old.held) old new before after limit refl fresh result ran;
        means = kept;
        untaped = untaped memory.ghosts means (FeedIsCounted file old.held) old new before after limit refl fresh result refl ran;
      }

  pub rows_by_limit : (file : Option BatchFile) (batch : Batch) (delivered : Delivered) → IsReadOf (kinds old.held.query.columns) file batch
      → DeliversBatch true old.held batch new.held (Ok delivered)
      → Ran memory.ghosts (λ _ key. fnv_1a key) old.held.query means
      (AreCounted (aggregations_on (part_of old.held.parts batch.origin) batch.number batch.rows)) Done before old.work after new.work
      → FeedsSession file old new (Ok delivered)
  rows_by_limit file batch delivered read delivers ran =
      fed_by_limit file (Ok delivered) (record { batch = batch; is_read = read; delivers = delivers })
      (ran_weaker memory.ghosts (λ _ key. fnv_1a key) old.held.query means
      (AreCounted (aggregations_on (part_of old.held.parts batch.origin) batch.number batch.rows)) (FeedIsCounted file old.held) Done before
      old.work after new.work
      (λ counted. of_batch_file file old.held (λ origin number packed. AreCounted
      (aggregations_on (part_of old.held.parts origin) number packed)
      (meaning old.held.query) (setting_by {H = H} (λ _ key. fnv_1a key) (meaning old.held.query) means) old.work before.count new.work
      after.count)
      batch read counted) ran)

  -- a batch was read, and the replica refused it
  pub rows_refused : (file : Option BatchFile) (batch : Batch) (refused : RefusedBatch) (why : Refusal) → why ≡ refused_batch refused
      → IsReadOf (kinds old.held.query.columns) file batch → DeliversBatch true old.held batch new.held (Err refused)
      → Ran memory.ghosts (λ _ key. fnv_1a key) old.held.query means
      (AreCounted (aggregations_on (part_of old.held.parts batch.origin) batch.number batch.rows)) (Refused (join_reason refused.why)) before
      old.work after new.work → FeedsSession file old new (Err why)
  rows_refused file batch refused why is read delivers ran =
      fed_by_limit file (Err why) (inr (refused, is, record { batch = batch; is_read = read; delivers = delivers }))
      (ran_as memory.ghosts (λ _ key. fnv_1a key) old.held.query means (FeedIsCounted file old.held) _ (Refused (refusal_reason why)) before
      old.work after new.work
      (ap Refused (sym (join_reasons refused.batch.origin refused.why) ∙ ap refusal_reason (sym is)))
      (record { disk = ran.disk; undamaged = ran.undamaged; counted = tt; uncounted = ran.uncounted; grown = ran.grown }))

  pub merged_by_limit : (other : SessionState) → MergesHeld true old.held other.held new.held
      → Ran memory.ghosts (λ _ key. fnv_1a key) old.held.query means (MergeIsCounted old.held.parts other.held.parts) Done before old.work
      after new.work → MergesSession {T = Unit {0}} other old new (Ok tt)
  merged_by_limit other merges ran =
      record {
        merges = merges;
        ran = done_by_limit memory.ghosts means (MergeIsCounted old.held.parts other.held.parts) old new before after limit refl fresh tt
            ran;
        means = kept;
        untaped = tt;
      }

  -- the replicas were not merged
  pub merge_refused : (other : SessionState) (error : MergeError) (why : Refusal) → why ≡ merge_refusal error → new.held ≡ old.held
      → MergeTells error old.held other.held
      → Ran memory.ghosts (λ _ key. fnv_1a key) old.held.query means (MergeIsCounted old.held.parts other.held.parts)
      (Refused (merge_reason error)) before old.work after new.work → MergesSession {T = Unit {0}} other old new (Err why)
  merge_refused other error why is same tells ran =
      let Counts = MergeIsCounted old.held.parts other.held.parts in
      let refused = ran_as memory.ghosts (λ _ key. fnv_1a key) old.held.query means Counts _ (Refused (refusal_reason why)) before old.work
      after new.work (ap Refused (sym (merge_reasons error) ∙ ap refusal_reason (sym is))) ran in
      record {
        merges = (same, (error, is, tells));
        ran = ran_by_limit memory.ghosts means Counts old new before after limit refl fresh (Err why) refused;
        means = kept;
        untaped = untaped {T = Unit {0}} memory.ghosts means Counts old new before after limit refl fresh (Err why) refl refused;
      }

  pub merged_file_by_limit : (file : List ℕ) (result : Result (Unit {0}) Refusal) → MergesFile true file old.held new.held result
      → Ran memory.ghosts (λ _ key. fnv_1a key) old.held.query means (FileMergeIsCounted file old.held) (refusal_ended result) before
      old.work after new.work → MergesFileSession file old new result
  merged_file_by_limit file result merges ran =
      record {
        merges = merges;
        ran = ran_by_limit memory.ghosts means (FileMergeIsCounted file old.held) old new before after limit refl fresh result ran;
        means = kept;
        untaped = untaped memory.ghosts means (FileMergeIsCounted file old.held) old new before after limit refl fresh result refl ran;
      }
