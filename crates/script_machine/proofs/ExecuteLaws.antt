-- What a command did, put together: one that aggregates nothing, and feeds.
use Rattle.std.specs.Prelude.{◌≡◌, ◌≢◌, ◌⊎◌, ℕ, false, refl, List, Option, Some, Ok, Err, IsTrue}
use Rattle.std.proofs.Common.{◌∙◌, ap, sym, subst, inl, inr}
use Rattle.batch_reader.specs.Refusal.{BuildFault}
use Rattle.batch_reader.specs.declared.batch.Batch.{Batch}
use Rattle.batch_reader.specs.declared.error.BatchError.TheVariants as reading
use Rattle.grouping_model.specs.declared.delivered.Delivered.{Delivered}
use Rattle.hash_agg.specs.Counting.{AreCounted}
use Rattle.hash_agg.specs.Ran.{Refused, faults_of}
use Rattle.hash_agg.specs.declared.work.Work.{Work}
use Rattle.origin_prefix.specs.Errors.{join_reason}
use Rattle.origin_prefix.specs.Parts.{BatchTells, aggregations_on}
use Rattle.origin_prefix.specs.declared.error.JoinError.{JoinError}
use Rattle.origin_prefix.specs.declared.error.JoinError.TheVariants as join
use Rattle.origin_prefix.specs.declared.error.RefusedBatch.{RefusedBatch}
use Rattle.replica_merge.specs.DeliveryLaws.{delivery_agreed, delivery_refused}
use Rattle.replica_merge.specs.Replicas.{DeliversAt}
use Rattle.replica_merge.specs.Results.{DeliversBatch}
use Rattle.refusals.specs.BatchLaws.{fed_of, read_is_fed}
use Rattle.refusals.specs.FeedLaws.{taken_read, refused_not_of_batch, refused_other}
use Rattle.refusals.specs.RefusalLaws.{batch_never_disagrees, batch_tells, batch_undamaged, join_reasons, reason_faults}
use Rattle.replies.specs.ReplyLaws.{no_fault_in}
use Rattle.refusals.specs.Refusals.{join_refusal, merge_refusal, refusal_reason, refused_batch}
use Rattle.replica_merge.specs.declared.error.MergeError.{MergeError}
use Rattle.replica_merge.specs.declared.error.MergeError.TheVariants as merge
use Rattle.spill_partitions.specs.declared.error.SpillError.TheVariants as spill
use Rattle.spill_partitions.specs.declared.error.SpillError.TheVariants.{TapeDamaged}
use Rattle.refusals.specs.declared.refusal.Refusal.{Refusal}
use Rattle.refusals.specs.declared.refusal.Refusal.TheVariants as why
use Rattle.replies.specs.declared.reply.Reply.{Reply}
use Rattle.replies.specs.declared.reply.Reply.TheVariants as says
use Rattle.script_commands.specs.Commands as ask
use Rattle.script_commands.specs.Commands.{Request}
use Rattle.tape_disks.specs.DiskLaws.{leaves_none}
use Rattle.tape_disks.specs.declared.disk.TapeDisk.{Ghosts}
use Rattle.script_machine.proofs.FeedLaws.{feed_alike, feed_apart, feed_fails, feed_worked}
use Rattle.script_machine.proofs.StoreLaws.{disagrees_or, feed_disagrees, feed_refused, feed_took, same_updated}
use Rattle.script_machine.proofs.Words.{BatchError, DiskFrame, Executes, Held, IsNoBatch, IsOfBatch, IsRead, IsStore, Record}
use Rattle.script_machine.proofs.Words.{Steps, Store, TellsDisagreement, Updates, WorksAtLimit, batch_refusal, is_tape_fault, kinds}
use Rattle.script_machine.proofs.Words.{meaning, no_work, part_of, replica_at, setting_at}

-- a command that aggregates nothing leaves the disk as it was
pub idle : {D : Type 0} (g : Ghosts D) (request : Request) (owned : List Record) (old new : Store) (disk : D) (reply : Reply)
    → Steps (g.honest disk) request owned old reply new → TellsDisagreement old request owned reply → is_tape_fault reply ≡ false
    → WorksAtLimit old request owned reply (g.writes disk) (g.writes disk) → Executes g request owned old disk reply new disk
idle g request owned old new disk reply steps tells faultless works = record {
  answers = steps;
  tells = tells;
  disk = subst (λ n. DiskFrame g n disk disk) (sym (no_fault_in reply faultless)) (leaves_none g disk);
  limit = λ honest. works;
}

-- the same of a store that is the one before it
pub turns_executes : {D : Type 0} {g : Ghosts D} {request : Request} {owned : List Record} {before after : D} {reply : Reply}
    {old now new : Store} → old ≡ now → Executes g request owned old before reply new after
    → Executes g request owned now before reply new after
turns_executes {g = g} {request = request} {owned = owned} {before = before} {after = after} {reply = reply} {new = new} same is =
    subst (λ s. Executes g request owned s before reply new after) same is

-- where nothing is written, it is as it should be for each refusal of a feed
pub unread_works : (old : Store) (name origin number : List ℕ) (told : ℕ) (owned : List Record) (refusal : Refusal) (writes : ℕ)
    → WorksAtLimit old (ask.Feed name origin number told) owned (says.Refused refusal) writes writes
unread_works old name origin number told owned why.NoSuchName writes = refl
unread_works old name origin number told owned (why.Batch error) writes = refl
unread_works old name origin number told owned refusal writes = tt

-- a feed that is no batch tells no disagreement, and no failure of the disk
unread_tells : (old : Store) (name origin number : List ℕ) (told : ℕ) (owned : List Record) (error : BatchError)
    → TellsDisagreement old (ask.Feed name origin number told) owned (says.Refused (batch_refusal error))
unread_tells old name origin number told owned reading.NoMemory = tt
unread_tells old name origin number told owned error = tt

-- of a batch that was read and refused nothing more is told
untaken_works : (old : Store) (name origin number : List ℕ) (told : ℕ) (owned : List Record) (of : ℕ) (error : JoinError)
    (writes written : ℕ) → WorksAtLimit old (ask.Feed name origin number told) owned (says.Refused (join_refusal of error)) writes written
untaken_works old name origin number told owned of (join.OriginDisagrees at) writes written = tt
untaken_works old name origin number told owned of (join.Spill spill.NoMemory) writes written = tt
untaken_works old name origin number told owned of (join.Spill spill.TapeFault) writes written = tt
untaken_works old name origin number told owned of (join.Spill spill.TapeDamaged) writes written = tt

-- nor of two replicas that are there and are not joined
pub unjoined_works : (old : Store) (into from : List ℕ) (owned : List Record) (error : MergeError) (writes written : ℕ)
    → WorksAtLimit old (ask.Merge into from) owned (says.Refused (merge_refusal error)) writes written
unjoined_works old into from owned merge.DifferentQuery writes written = tt
unjoined_works old into from owned merge.NoMemory writes written = tt
unjoined_works old into from owned (merge.Join of (join.OriginDisagrees at)) writes written = tt
unjoined_works old into from owned (merge.Join of (join.Spill spill.NoMemory)) writes written = tt
unjoined_works old into from owned (merge.Join of (join.Spill spill.TapeFault)) writes written = tt
unjoined_works old into from owned (merge.Join of (join.Spill spill.TapeDamaged)) writes written = tt

-- why a feed is no batch
no_batch : (held : Held) (origin number : List ℕ) (told : ℕ) (owned : List Record) (error : BatchError)
    → BuildFault (kinds held.query.columns) origin number told owned error
    → IsOfBatch (batch_refusal error) → IsNoBatch (kinds held.query.columns) origin number told owned (batch_refusal error)
no_batch held origin number told owned error fault of = go error fault of
  where
    go : (error : BatchError) → BuildFault (kinds held.query.columns) origin number told owned error → IsOfBatch (batch_refusal error)
        → IsNoBatch (kinds held.query.columns) origin number told owned (batch_refusal error)
    go reading.NoMemory fault of = absurd of
    go error fault of = record { error = error; found = λ e. cc; fault = fault; named = refl }

module _ {D : Type 0} (g : Ghosts D) (old new : Store) (name origin number : List ℕ) (told : ℕ) (owned : List Record) (held : Held)
    (is : IsStore old) (there : replica_at old name ≡ Some held) where
  -- no batch was read
  pub feed_unread : (before : D) (error : BatchError) → Updates old new name held
      → BuildFault (kinds held.query.columns) origin number told owned error
      → Executes g (ask.Feed name origin number told) owned old before (says.Refused (batch_refusal error)) new before
  feed_unread before error u fault = record {
    answers = feed_refused old new name origin number told owned held (batch_refusal error) is there (same_updated old new name held u
        there)
        (batch_never_disagrees error) (λ right same. batch_undamaged error (ap refusal_reason same))
        (no_batch held origin number told owned error fault);
    tells = unread_tells old name origin number told owned error;
    disk = subst (λ n. DiskFrame g n before before) (sym (batch_tells error)) (leaves_none g before);
    limit = λ right. unread_works old name origin number told owned (batch_refusal error) (g.writes before);
  }

  module _ (later : Held) (batch : Batch) (u : Updates old new name later) (read : IsRead (kinds held.query.columns) origin number told
      owned
      batch) (before after : D) (begun done : Work) where
    -- the batch was taken
    pub feed_taken : (delivered : Delivered) → DeliversBatch (g.honest before) held batch later (Ok delivered) → DiskFrame g 0 before after
        → begun ≡ no_work → (IsTrue (g.honest before) → AreCounted (aggregations_on (part_of held.parts batch.origin) batch.number
        batch.rows)
        (meaning held.query) (setting_at old.limit (meaning held.query)) begun (g.writes before) done (g.writes after))
        → Executes g (ask.Feed name origin number told) owned old before (says.Delivered delivered) new after
    feed_taken delivered d disk none counted = record {
      answers = feed_took old new name origin number told owned held later delivered is there
          (taken_read (g.honest before) held batch later delivered d origin number told owned read)
          (record {
            held = held;
            later = later;
            fed = fed_of batch read.rows;
            there = there;
            is_batch = read_is_fed (kinds held.query.columns) origin number told owned batch read;
            delivers = subst (λ packed. DeliversAt (g.honest before) held.query held.parts batch.origin batch.number packed later.parts
                delivered) read.packed d.taken;
            updates = u;
          }) u;
      tells = (
        held,
        there,
        feed_alike held origin number told owned batch read (delivery_agreed (g.honest before) held later batch (Ok delivered) d),
      );
      disk = disk;
      limit = λ right. (
        held,
        there,
        feed_worked held old.limit origin number told owned batch begun done (g.writes before) (g.writes after) read none (counted right),
      );
    }

    -- the batch was refused
    pub feed_untaken : (refused : RefusedBatch) → DeliversBatch (g.honest before) held batch later (Err refused)
        → DiskFrame g (faults_of (Refused (join_reason refused.why))) before after
        → (IsTrue (g.honest before) → Refused (join_reason refused.why) ≢ Refused (Some TapeDamaged))
        → Executes g (ask.Feed name origin number told) owned old before (says.Refused (refused_batch refused)) new after
    feed_untaken refused d disk undamaged = record {
      answers = steps (disagrees_or (refused_batch refused));
      tells = untaken refused.batch.origin refused.why (ap (λ (b : Batch). b.origin) d.refused.back) d.refused.tells;
      disk = subst (λ n. DiskFrame g n before after) (ap (λ r. faults_of (Refused r)) (sym reasons) ∙ reason_faults (refused_batch refused))
          disk;
      limit = λ right. untaken_works old name origin number told owned refused.batch.origin refused.why (g.writes before)
          (g.writes after);
    }
      where
        reasons : refusal_reason (refused_batch refused) ≡ join_reason refused.why
        reasons = join_reasons refused.batch.origin refused.why

        stays : Updates old new name held
        stays = subst (Updates old new name) (delivery_refused (g.honest before) held later batch (Err refused) d).1 u

        request : Request
        request = ask.Feed name origin number told

        untaken : (of : ℕ) (error : JoinError) → of ≡ batch.origin
            → BatchTells error (part_of held.parts batch.origin) batch.number batch.rows
            → TellsDisagreement old request owned (says.Refused (join_refusal of error))
        untaken of (join.OriginDisagrees at) same tells =
            (held, there, feed_apart held origin number told owned batch of at read (same, tells.0, tells.1))
        untaken of (join.Spill spill.NoMemory) same tells = tt
        untaken of (join.Spill spill.TapeFault) same tells =
            (held, there, feed_fails held origin number told owned batch spill.TapeFault read tells)
        untaken of (join.Spill spill.TapeDamaged) same tells =
            (held, there, feed_fails held origin number told owned batch spill.TapeDamaged read tells)

        steps : ((of : ℕ) × (at : Option ℕ) × (refused_batch refused ≡ why.OriginDisagrees of at))
            ⊎ ((of : ℕ) (at : Option ℕ) → refused_batch refused ≢ why.OriginDisagrees of at)
            → Steps (g.honest before) request owned old (says.Refused (refused_batch refused)) new
        steps (inl apart) = subst (λ w. Steps (g.honest before) request owned old (says.Refused w) new) (sym apart.2)
            (feed_disagrees old new name origin number told owned held is there (same_updated old new name held stays there)
            (refused_other (g.honest before) held batch later refused d apart.0 apart.1 apart.2 origin number told owned read)
            apart.0 apart.1)
        steps (inr agreed) = feed_refused old new name origin number told owned held (refused_batch refused) is there
            (same_updated old new name held stays there) agreed
            (λ right same. undamaged right (ap Refused (sym reasons ∙ ap refusal_reason same)))
            (λ of. absurd (refused_not_of_batch (g.honest before) held batch later refused d of))
