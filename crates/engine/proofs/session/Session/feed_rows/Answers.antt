use Rattle.std.specs.Prelude.{refl, Ok, Err}
use Rattle.std.proofs.Common.{ap, subst, ◌∙◌}
use Rattle.packed_rows.specs.Columns.{kinds}
use Rattle.query_checks.specs.Checks.{Checked}
use Rattle.command_replicas.specs.Commands.{IsReadOf}
use Rattle.command_replicas.specs.Lemmas.FileLaws.{packed_of_file}
use Rattle.engine.specs.Calls.{FeedsSession, batch_of}
use Rattle.engine.specs.Sessions.{SessionState}
use Rattle.engine.specs.contracts.session.Session.{the_view}
use Rattle.engine.proofs.SessionLaws.{carried, fed_same, rows_by_limit, rows_refused}
use Rattle.engine.proofs.session.Session.feed_rows.Goals as goal

pub deliver-delivered-requires-clause-rows : goal.deliver-delivered-requires-clause-rows
deliver-delivered-requires-clause-rows c =
    let file = batch_of c.args.origin c.args.number c.args.count c.args.rows.now in
    let same = c.schema-schema.ensures.columns ∙ ap (λ (q : Checked). q.columns) c.query.ensures in
    packed_of_file _ file c.in-Ok.batch (subst (λ cs. IsReadOf (kinds cs) file c.in-Ok.batch) same c.in-Ok.ensures.read)

pub returns-in-Ok-delivered-clause-feeds : goal.returns-in-Ok-delivered-clause-feeds
returns-in-Ok-delivered-clause-feeds c =
    let file = batch_of c.args.origin c.args.number c.args.count c.args.rows.now in
    let same = c.schema-schema.ensures.columns ∙ ap (λ (q : Checked). q.columns) c.query.ensures in
    let new : SessionState = record {
      held = c.deliver-delivered.new.self;
      limit = c.self.inside.means.limit;
      seed = c.self.inside.means.seed;
      work = c.into_work-self-inside.result;
    } in
    subst (λ (s : SessionState). FeedsSession file s new (Ok c.in-Ok-delivered.delivered)) c.self.view_is
    (rows_by_limit c.self.inside.means (the_view c.self.inside) new _ _ refl c.new-disk.ensures.count
    (record { limit = refl; seed = refl }) file c.in-Ok.batch c.in-Ok-delivered.delivered
    (subst (λ cs. IsReadOf (kinds cs) file c.in-Ok.batch) same c.in-Ok.ensures.read) c.in-Ok-delivered.ensures.delivers
    (carried c.after-executor.ensures c.into_work-self-inside.ensures c.in-Ok-delivered.ensures.ran))

pub returns-clause-feeds : goal.returns-clause-feeds
returns-clause-feeds c =
    let file = batch_of c.args.origin c.args.number c.args.count c.args.rows.now in
    let same = c.schema-schema.ensures.columns ∙ ap (λ (q : Checked). q.columns) c.query.ensures in
    let why = c.from-in-Err-delivered.result in
    let new : SessionState = record {
      held = c.deliver-delivered.new.self;
      limit = c.self.inside.means.limit;
      seed = c.self.inside.means.seed;
      work = c.into_work-self-inside.result;
    } in
    subst (λ (s : SessionState). FeedsSession file s new (Err why)) c.self.view_is
    (rows_refused c.self.inside.means (the_view c.self.inside) new _ _ refl c.new-disk.ensures.count
    (record { limit = refl; seed = refl }) file c.in-Ok.batch c.in-Err-delivered.refused why c.from-in-Err-delivered.ensures
    (subst (λ cs. IsReadOf (kinds cs) file c.in-Ok.batch) same c.in-Ok.ensures.read) c.in-Err-delivered.ensures.delivers
    (carried c.after-executor.ensures c.into_work-self-inside.ensures c.in-Err-delivered.ensures.ran))

pub returns-clause-same : goal.returns-clause-same
returns-clause-same c = fed_same (batch_of c.args.origin c.args.number c.args.count c.args.rows.now) c.args.self.now _
    (Err c.from-in-Err-delivered.result) (returns-clause-feeds c)
