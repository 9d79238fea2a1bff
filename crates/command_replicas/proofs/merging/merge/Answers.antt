use Rattle.std.specs.Prelude.{refl}
use Rattle.std.proofs.Common.{◌∙◌, ap, inl, inr, sym}
use Rattle.std.proofs.lemmas.Result.{err_from_is_err_and}
use Rattle.hash_agg.specs.Lemmas.RanLaws.{ran_as, ran_weaker, refused_by, refused_still}
use Rattle.hash_agg.specs.Ran.{Done, Refused}
use Rattle.replica_merge.specs.Counting.{MergeIsCounted}
use Rattle.refusals.specs.RefusalLaws.{merge_reasons}
use Rattle.refusals.specs.Refusals.{refusal_reason, summary_refusal}
use Rattle.command_replicas.specs.Commands.{FileMergeIsCounted}
use Rattle.command_replicas.specs.Lemmas.FileLaws.{no_file_fault, no_file_damage}
use Rattle.command_replicas.proofs.FileLaws.{no_summary}
use Rattle.command_replicas.proofs.merging.merge.Goals as goal

pub returns-clause-merges : goal.returns-clause-merges
returns-clause-merges g c = (c.in_ok-other.other, c.in_ok-other.ensures.loaded, c.in_ok-merge.ensures.merges.merged)

pub returns-clause-ran : goal.returns-clause-ran
returns-clause-ran g c =
    let old = c.args.replica.now in
    let other = c.in_ok-other.other in
    ran_weaker g.D.TapeDisk g.H.KeyHash.hash_of old.query c.args.means.now (MergeIsCounted old.parts other.parts)
    (FileMergeIsCounted c.args.file.now old) Done c.args.disk.now c.args.executor.now c.merge.new.disk c.merge.new.executor
    (λ counted. (other, c.in_ok-other.ensures.loaded.summary, counted)) c.in_ok-merge.ensures.ran.ran

pub returns-in_err-other-clause-merges : goal.returns-in_err-other-clause-merges
returns-in_err-other-clause-merges g c =
    let e = err_from_is_err_and c.from_residual.result c.from_residual.ensures.1 in
    rw e.1 (inl (refl, no_summary c.args.file.now c.in_err-other.field-0.0 _ e.2 c.in_err-other.ensures.fault))

pub returns-in_err-other-clause-ran : goal.returns-in_err-other-clause-ran
returns-in_err-other-clause-ran g c =
    let error = c.in_err-other.field-0.0 in
    let old = c.args.replica.now in
    let none = no_summary c.args.file.now error (summary_refusal error) refl c.in_err-other.ensures.fault in
    let Counts = FileMergeIsCounted c.args.file.now old in
    ran_as g.D.TapeDisk g.H.KeyHash.hash_of old.query c.args.means.now Counts (Refused (refusal_reason (summary_refusal error))) _
    c.args.disk.now c.args.executor.now c.args.disk.now c.args.executor.now
    (sym (refused_by refusal_reason c.from_residual.result (summary_refusal error) c.from_residual.ensures.1))
    (refused_still g.D.TapeDisk g.H.KeyHash.hash_of old.query c.args.means.now Counts (refusal_reason (summary_refusal error))
    c.args.disk.now c.args.executor.now (no_file_fault c.args.file.now (summary_refusal error) none)
    (λ honest. no_file_damage c.args.file.now (summary_refusal error) none))

pub returns-in_err-merge-clause-merges : goal.returns-in_err-merge-clause-merges
returns-in_err-merge-clause-merges g c =
    let e = err_from_is_err_and c.from_residual-in_err-merge.result c.from_residual-in_err-merge.ensures.1 in
    rw e.1 (inr (record {
      other = c.in_ok-other.other;
      loaded = c.in_ok-other.ensures.loaded;
      apart = (c.in_err-merge.field-0.0, e.2, c.in_err-merge.ensures.merges.refused);
      same = c.in_err-merge.ensures.merges.same;
    }))

pub returns-in_err-merge-clause-ran : goal.returns-in_err-merge-clause-ran
returns-in_err-merge-clause-ran g c =
    let error = c.in_err-merge.field-0.0 in
    let old = c.args.replica.now in
    let ran = c.in_err-merge.ensures.ran.ran in
    let Counts = FileMergeIsCounted c.args.file.now old in
    ran_as g.D.TapeDisk g.H.KeyHash.hash_of old.query c.args.means.now Counts _ _ c.args.disk.now c.args.executor.now c.merge.new.disk
    c.merge.new.executor
    (ap Refused (sym (merge_reasons error)) ∙ sym (refused_by refusal_reason c.from_residual-in_err-merge.result _
    c.from_residual-in_err-merge.ensures.1))
    (record { disk = ran.disk; undamaged = ran.undamaged; counted = tt; uncounted = ran.uncounted; grown = ran.grown })
