use Rattle.std.specs.Prelude.{refl}
use Rattle.std.proofs.Common.{◌∙◌, ap, inl, inr, sym, subst}
use Rattle.std.proofs.lemmas.Result.{err_from_is_err_and}
use Rattle.packed_rows.specs.Columns.{kinds}
use Rattle.batch_reader.specs.File.{FileFault, read_file}
use Rattle.query_checks.specs.Checks.{Checked}
use Rattle.origin_prefix.specs.Parts.{aggregations_on}
use Rattle.replica_merge.specs.Replicas.{part_of}
use Rattle.hash_agg.specs.Counting.{AreCounted, setting_by}
use Rattle.hash_agg.specs.Lemmas.RanLaws.{ran_as, ran_weaker, refused_by, refused_still}
use Rattle.hash_agg.specs.Ran.{Done, Refused}
use Rattle.having_filter.specs.Meaning.{meaning}
use Rattle.refusals.specs.RefusalLaws.{batch_reason, batch_undamaged, join_reasons}
use Rattle.refusals.specs.Refusals.{batch_refusal, refusal_reason}
use Rattle.command_replicas.specs.Commands.{FeedIsCounted}
use Rattle.command_replicas.specs.Lemmas.FileLaws.{read_of_file, packed_of_file, of_batch_file}
use Rattle.command_replicas.proofs.feeding.feed.Goals as goal

pub deliver-requires-clause-rows : goal.deliver-requires-clause-rows
deliver-requires-clause-rows g c =
    let batch = c.in_ok-batch.ensures in
    packed_of_file _ _ c.in_ok-batch.batch
    (read_of_file _ _ _ c.in_ok-batch.batch (c.schema-schema.ensures.columns ∙ ap (λ (q : Checked). q.columns) c.query.ensures) batch.origin
    batch.number batch.few batch.told batch.rows)

pub returns-clause-feeds : goal.returns-clause-feeds
returns-clause-feeds g c =
    let batch = c.in_ok-batch.ensures in
    record {
      batch = c.in_ok-batch.batch;
      is_read = read_of_file _ _ _ c.in_ok-batch.batch (c.schema-schema.ensures.columns ∙ ap (λ (q : Checked). q.columns) c.query.ensures)
          batch.origin batch.number batch.few batch.told batch.rows;
      delivers = c.in_ok-delivered.ensures.delivers;
    }

pub returns-clause-ran : goal.returns-clause-ran
returns-clause-ran g c =
    let batch = c.in_ok-batch.ensures in
    let old = c.args.replica.now in
    let file = read_file c.args.file.now in
    let read = read_of_file _ _ _ c.in_ok-batch.batch (c.schema-schema.ensures.columns ∙ ap (λ (q : Checked). q.columns) c.query.ensures)
    batch.origin batch.number batch.few batch.told batch.rows in
    ran_weaker g.D.TapeDisk g.H.KeyHash.hash_of old.query c.args.means.now
    (AreCounted (aggregations_on (part_of old.parts c.in_ok-batch.batch.origin) c.in_ok-batch.batch.number c.in_ok-batch.batch.rows))
    (FeedIsCounted file old) Done c.args.disk.now c.args.executor.now c.deliver.new.disk c.deliver.new.executor
    (λ counted. of_batch_file file old (λ origin number packed. AreCounted (aggregations_on (part_of old.parts origin) number packed)
    (meaning old.query) (setting_by g.H.KeyHash.hash_of (meaning old.query) c.args.means.now) c.args.executor.now
    (g.D.TapeDisk.writes c.args.disk.now) c.deliver.new.executor (g.D.TapeDisk.writes c.deliver.new.disk)) c.in_ok-batch.batch read counted)
    c.in_ok-delivered.ensures.ran

pub returns-in_err-batch-clause-feeds : goal.returns-in_err-batch-clause-feeds
returns-in_err-batch-clause-feeds g c =
    let e = err_from_is_err_and c.from_residual.result c.from_residual.ensures.1 in
    let same = c.schema-schema.ensures.columns ∙ ap (λ (q : Checked). q.columns) c.query.ensures in
    rw e.1 (inl (record {
      error = c.in_err-batch.field-0.0;
      fault = subst (λ cs. FileFault (kinds cs) (read_file c.args.file.now) c.in_err-batch.field-0.0) same c.in_err-batch.ensures.refused;
      named = e.2;
      same = refl;
    }))

pub returns-in_err-batch-clause-ran : goal.returns-in_err-batch-clause-ran
returns-in_err-batch-clause-ran g c =
    let e = err_from_is_err_and c.from_residual.result c.from_residual.ensures.1 in
    let error = c.in_err-batch.field-0.0 in
    let old = c.args.replica.now in
    let Counts = FeedIsCounted (read_file c.args.file.now) old in
    ran_as g.D.TapeDisk g.H.KeyHash.hash_of old.query c.args.means.now Counts (Refused (refusal_reason (batch_refusal error))) _
    c.args.disk.now c.args.executor.now c.args.disk.now c.args.executor.now
    (sym (refused_by refusal_reason c.from_residual.result (batch_refusal error) c.from_residual.ensures.1))
    (refused_still g.D.TapeDisk g.H.KeyHash.hash_of old.query c.args.means.now Counts (refusal_reason (batch_refusal error))
    c.args.disk.now c.args.executor.now (batch_reason error) (λ honest. batch_undamaged error))

pub returns-in_err-delivered-clause-feeds : goal.returns-in_err-delivered-clause-feeds
returns-in_err-delivered-clause-feeds g c =
    let e = err_from_is_err_and c.from_residual-in_err-delivered.result c.from_residual-in_err-delivered.ensures.1 in
    let batch = c.in_ok-batch.ensures in
    rw e.1 (inr (
      c.in_err-delivered.field-0.0,
      e.2,
      record {
        batch = c.in_ok-batch.batch;
        is_read = read_of_file _ _ _ c.in_ok-batch.batch (c.schema-schema.ensures.columns ∙ ap (λ (q : Checked). q.columns) c.query.ensures)
            batch.origin batch.number batch.few batch.told batch.rows;
        delivers = c.in_err-delivered.ensures.delivers;
      },
    ))

pub returns-in_err-delivered-clause-ran : goal.returns-in_err-delivered-clause-ran
returns-in_err-delivered-clause-ran g c =
    let refused = c.in_err-delivered.field-0.0 in
    let old = c.args.replica.now in
    let ran = c.in_err-delivered.ensures.ran in
    let Counts = FeedIsCounted (read_file c.args.file.now) old in
    ran_as g.D.TapeDisk g.H.KeyHash.hash_of old.query c.args.means.now Counts _ _ c.args.disk.now c.args.executor.now c.deliver.new.disk
    c.deliver.new.executor
    (ap Refused (sym (join_reasons refused.batch.origin refused.why))
    ∙ sym (refused_by refusal_reason c.from_residual-in_err-delivered.result _ c.from_residual-in_err-delivered.ensures.1))
    (record { disk = ran.disk; undamaged = ran.undamaged; counted = tt; uncounted = ran.uncounted; grown = ran.grown })
