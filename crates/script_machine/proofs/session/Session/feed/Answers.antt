use Rattle.std.specs.Prelude.{take, refl}
use Rattle.std.proofs.Common.{◌∙◌, ap, sym, subst}
use Rattle.std.proofs.lemmas.Result.{IfErr-at_err}
use Rattle.std.specs.Option.{is_some}
use Rattle.query_checks.specs.Checks.{Checked}
use Rattle.batch_reader.specs.Refusal.{BuildFault}
use Rattle.refusals.specs.BatchLaws.{read_are_packed}
use Rattle.script_commands.specs.Commands as ask
use Rattle.script_machine.proofs.Words.{Executes, Store, Updates, kinds}
use Rattle.refusals.specs.declared.refusal.Refusal.{Refusal}
use Rattle.refusals.specs.declared.refusal.Refusal.TheVariants as why
use Rattle.replies.specs.declared.reply.Reply.TheVariants as says
use Rattle.script_machine.proofs.ExecuteLaws.{feed_taken, feed_unread, feed_untaken, idle, turns_executes}
use Rattle.script_machine.proofs.FeedLaws.{read_of_feed}
use Rattle.script_machine.proofs.StoreLaws.{feed_nowhere, store_replaced, updated}
use Rattle.script_machine.proofs.session.Session.feed.Goals as goal

pub deliver-requires-clause-rows : goal.deliver-requires-clause-rows
deliver-requires-clause-rows g c =
    let batch = c.in_ok-batch.ensures in
    let owned = take c.args.told c.args.records.now in
    read_are_packed _ _ _ _ _ _ (read_of_feed _ _ c.args.origin.now c.args.number.now c.args.told owned _ c.in-Ok.batch
    (c.schema-schema.ensures.columns ∙ ap (λ (q : Checked). q.columns) c.query.ensures) c.in-Ok.is batch.origin batch.number batch.few
    batch.told batch.rows)

pub returns-in_default-clause-executes : goal.returns-in_default-clause-executes
returns-in_default-clause-executes g c =
    let request = ask.Feed c.args.name.now c.args.origin.now c.args.number.now c.args.told in
    let owned = take c.args.told c.args.records.now in
    let disk = c.args.disk.now in
    let old : Store = record {
      columns = c.self.inside.columns;
      query = c.self.inside.query;
      replicas = c.self.inside.replicas.entries;
      saved = c.self.inside.saved.entries;
      limit = c.self.inside.means.limit;
      seed = c.self.inside.means.seed;
    } in
    turns_executes c.self.view_is
    (subst (λ m. Executes g.D.TapeDisk request owned old disk (says.Refused why.NoSuchName)
    (record {
      columns = c.self.inside.columns;
      query = c.self.inside.query;
      replicas = m.entries;
      saved = c.self.inside.saved.entries;
      limit = c.self.inside.means.limit;
      seed = c.self.inside.means.seed;
    }) disk) (sym c.get_mut.follows.holds-at-none)
    (idle g.D.TapeDisk request owned old old disk (says.Refused why.NoSuchName)
    (feed_nowhere old c.args.name.now c.args.origin.now c.args.number.now c.args.told owned (sym c.in_default.ensures.value)) tt refl refl))

pub invariant_of-self-in_err-batch : goal.invariant_of-self-in_err-batch
invariant_of-self-in_err-batch g c =
    let there = sym c.in-Some.ensures.value in
    store_replaced c.self.inside.means c.self.inside.columns c.self.inside.query c.self.inside.saved.entries c.args.name.now
    c.in-Some.replica.now c.in-Some.replica.now c.self.inside.replicas (c.get_mut.follows.lender c.in-Some.replica.now)
    c.self.invariant there refl ((c.get_mut.follows.holds c.in-Some.replica.now).3 (ap is_some there))

pub invariant_of-self-in-Err : goal.invariant_of-self-in-Err
invariant_of-self-in-Err g c =
    let there = sym c.in-Some.ensures.value in
    store_replaced c.self.inside.means c.self.inside.columns c.self.inside.query c.self.inside.saved.entries c.args.name.now
    c.in-Some.replica.now c.in-Some.replica.now c.self.inside.replicas (c.get_mut.follows.lender c.in-Some.replica.now)
    c.self.invariant there refl ((c.get_mut.follows.holds c.in-Some.replica.now).3 (ap is_some there))

pub invariant_of-self-in-Ok-deliver : goal.invariant_of-self-in-Ok-deliver
invariant_of-self-in-Ok-deliver g c =
    let there = sym c.in-Some.ensures.value in
    store_replaced c.self.inside.means c.self.inside.columns c.self.inside.query c.self.inside.saved.entries c.args.name.now
    c.in-Some.replica.now c.deliver.new.self c.self.inside.replicas (c.get_mut.follows.lender c.deliver.new.self)
    c.self.invariant there c.deliver.ensures.delivers.asked ((c.get_mut.follows.holds c.deliver.new.self).3 (ap is_some there))

pub invariant_of-self-2 : goal.invariant_of-self-2
invariant_of-self-2 g c =
    let there = sym c.in-Some.ensures.value in
    store_replaced c.self.inside.means c.self.inside.columns c.self.inside.query c.self.inside.saved.entries c.args.name.now
    c.in-Some.replica.now c.deliver.new.self c.self.inside.replicas (c.get_mut.follows.lender c.deliver.new.self)
    c.self.invariant there c.deliver.ensures.delivers.asked ((c.get_mut.follows.holds c.deliver.new.self).3 (ap is_some there))

pub returns-in-Err-clause-executes : goal.returns-in-Err-clause-executes
returns-in-Err-clause-executes g c =
    let there = sym c.in-Some.ensures.value in
    let owned = take c.args.told c.args.records.now in
    let disk = c.args.disk.now in
    let held = c.in-Some.replica.now in
    let old : Store = record {
      columns = c.self.inside.columns;
      query = c.self.inside.query;
      replicas = c.self.inside.replicas.entries;
      saved = c.self.inside.saved.entries;
      limit = c.self.inside.means.limit;
      seed = c.self.inside.means.seed;
    } in
    let new : Store = record {
      columns = c.self.inside.columns;
      query = c.self.inside.query;
      replicas = (c.get_mut.follows.lender c.in-Some.replica.now).entries;
      saved = c.self.inside.saved.entries;
      limit = c.self.inside.means.limit;
      seed = c.self.inside.means.seed;
    } in
    let u : Updates old new c.args.name.now held =
    updated c.self.inside.means c.self.inside.columns c.self.inside.query c.self.inside.saved.entries c.args.name.now
    c.in-Some.replica.now c.self.inside.replicas (c.get_mut.follows.lender c.in-Some.replica.now)
    ((c.get_mut.follows.holds c.in-Some.replica.now).3 (ap is_some there)) in
    let fault = IfErr-at_err (BuildFault (kinds _) c.args.origin.now c.args.number.now c.args.told owned) c.in-Err.is
    c.in_ok-batch.ensures.refused in
    turns_executes c.self.view_is
    (subst (λ (w : Refusal). Executes g.D.TapeDisk (ask.Feed c.args.name.now c.args.origin.now c.args.number.now c.args.told) owned old disk
    (says.Refused w) new disk) (sym c.from.ensures)
    (feed_unread g.D.TapeDisk old new c.args.name.now c.args.origin.now c.args.number.now c.args.told owned held c.self.invariant there disk
    c.in-Err.why u
    (subst (λ cs. BuildFault (kinds cs) c.args.origin.now c.args.number.now c.args.told owned c.in-Err.why)
    (c.schema-schema.ensures.columns ∙ ap (λ (q : Checked). q.columns) c.query.ensures) fault)))

pub returns-in-Ok-deliver-clause-executes : goal.returns-in-Ok-deliver-clause-executes
returns-in-Ok-deliver-clause-executes g c =
    let there = sym c.in-Some.ensures.value in
    let batch = c.in_ok-batch.ensures in
    let owned = take c.args.told c.args.records.now in
    let held = c.in-Some.replica.now in
    let later = c.deliver.new.self in
    let old : Store = record {
      columns = c.self.inside.columns;
      query = c.self.inside.query;
      replicas = c.self.inside.replicas.entries;
      saved = c.self.inside.saved.entries;
      limit = c.self.inside.means.limit;
      seed = c.self.inside.means.seed;
    } in
    let new : Store = record {
      columns = c.self.inside.columns;
      query = c.self.inside.query;
      replicas = (c.get_mut.follows.lender c.deliver.new.self).entries;
      saved = c.self.inside.saved.entries;
      limit = c.self.inside.means.limit;
      seed = c.self.inside.means.seed;
    } in
    let u : Updates old new c.args.name.now later =
    updated c.self.inside.means c.self.inside.columns c.self.inside.query c.self.inside.saved.entries c.args.name.now
    c.deliver.new.self c.self.inside.replicas (c.get_mut.follows.lender c.deliver.new.self)
    ((c.get_mut.follows.holds c.deliver.new.self).3 (ap is_some there)) in
    let read = read_of_feed _ _ c.args.origin.now c.args.number.now c.args.told owned _ c.in-Ok.batch
    (c.schema-schema.ensures.columns ∙ ap (λ (q : Checked). q.columns) c.query.ensures) c.in-Ok.is batch.origin batch.number batch.few
    batch.told batch.rows in
    turns_executes c.self.view_is
    (feed_taken g.D.TapeDisk old new c.args.name.now c.args.origin.now c.args.number.now c.args.told owned held c.self.invariant there later
    c.in-Ok.batch u read c.args.disk.now c.deliver.new.disk c.count_from.new.self c.deliver.new.executor c.in-Ok-deliver.delivered
    c.in-Ok-deliver.ensures.delivers c.in-Ok-deliver.ensures.ran.disk (c.count_from.ensures ∙ c.none.ensures) c.in-Ok-deliver.ensures.ran.counted)

pub returns-clause-executes : goal.returns-clause-executes
returns-clause-executes g c =
    let there = sym c.in-Some.ensures.value in
    let batch = c.in_ok-batch.ensures in
    let owned = take c.args.told c.args.records.now in
    let held = c.in-Some.replica.now in
    let later = c.deliver.new.self in
    let old : Store = record {
      columns = c.self.inside.columns;
      query = c.self.inside.query;
      replicas = c.self.inside.replicas.entries;
      saved = c.self.inside.saved.entries;
      limit = c.self.inside.means.limit;
      seed = c.self.inside.means.seed;
    } in
    let new : Store = record {
      columns = c.self.inside.columns;
      query = c.self.inside.query;
      replicas = (c.get_mut.follows.lender c.deliver.new.self).entries;
      saved = c.self.inside.saved.entries;
      limit = c.self.inside.means.limit;
      seed = c.self.inside.means.seed;
    } in
    let u : Updates old new c.args.name.now later =
    updated c.self.inside.means c.self.inside.columns c.self.inside.query c.self.inside.saved.entries c.args.name.now
    c.deliver.new.self c.self.inside.replicas (c.get_mut.follows.lender c.deliver.new.self)
    ((c.get_mut.follows.holds c.deliver.new.self).3 (ap is_some there)) in
    let read = read_of_feed _ _ c.args.origin.now c.args.number.now c.args.told owned _ c.in-Ok.batch
    (c.schema-schema.ensures.columns ∙ ap (λ (q : Checked). q.columns) c.query.ensures) c.in-Ok.is batch.origin batch.number batch.few
    batch.told batch.rows in
    turns_executes c.self.view_is
    (subst (λ (w : Refusal). Executes g.D.TapeDisk (ask.Feed c.args.name.now c.args.origin.now c.args.number.now c.args.told) owned old
    c.args.disk.now (says.Refused w) new c.deliver.new.disk) (sym c.from-2.ensures)
    (feed_untaken g.D.TapeDisk old new c.args.name.now c.args.origin.now c.args.number.now c.args.told owned held c.self.invariant there
    later
    c.in-Ok.batch u read c.args.disk.now c.deliver.new.disk c.count_from.new.self c.deliver.new.executor c.in-Err-deliver.refused
    c.in-Err-deliver.ensures.delivers c.in-Err-deliver.ensures.ran.disk c.in-Err-deliver.ensures.ran.undamaged))
