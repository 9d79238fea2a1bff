use Rattle.std.specs.Prelude.{Err, Ok}
use Rattle.std.proofs.Common.{◌∙◌, ap, sym, subst}
use Rattle.std.proofs.lemmas.Result.{err_from_is_err_and}
use Rattle.std.specs.Option.{option_copied}
use Rattle.script_commands.specs.Commands as ask
use Rattle.replies.specs.declared.reply.Reply.TheVariants as says
use Rattle.script_machine.proofs.Words.{meaning, JoinsNamed, setting_at, Store, DiskFrame, WorksAtLimit}
use Rattle.script_machine.proofs.ExecuteLaws.{unjoined_works}
use Rattle.hash_agg.specs.Ran.{Refused, faults_of}
use Rattle.replica_merge.specs.Counting.{MergeIsCounted}
use Rattle.replica_merge.specs.MergeLaws.{joined_agree}
use Rattle.refusals.specs.RefusalLaws.{merge_reasons, reason_faults}
use Rattle.refusals.specs.Refusals.{IsApart, merge_refusal, refusal_faults, refusal_reason}
use Rattle.script_machine.proofs.StoreLaws.{joins_names, merge_tells}
use Rattle.script_machine.proofs.session.Session.join.Goals as goal

pub returns : goal.returns
returns g c =
    let own = c.in-Some.own.now in
    let theirs = c.in-Some-get.theirs.now in
    let query = meaning own.query in
    let honest = g.D.TapeDisk.honest c.args.disk.now in
    let writes = g.D.TapeDisk.writes c.args.disk.now in
    let written = g.D.TapeDisk.writes c.join.new.disk in
    let one = sym c.get.ensures.value ∙ ap option_copied c.in-Some.is in
    let two = sym c.get-2.ensures.value ∙ ap option_copied c.in-Some-get.is in
    let joined = c.in_ok-joined.ensures.joins.joined in
    subst (λ (s : Store). JoinsNamed g.D.TapeDisk s c.args.into.now c.args.from.now c.args.disk.now (Ok c.in_ok-joined.joined)
    c.join.new.disk) c.self.view_is
    (record {
      joins = (own, theirs, one, two, joined);
      tells = λ owned. (own, one, (theirs, two, joined_agree honest own theirs c.in_ok-joined.joined joined));
      undamaged = tt;
      disk = c.in_ok-joined.ensures.ran.ran.disk;
      limit = λ right owned. (
        own,
        theirs,
        one,
        two,
        (
          c.join.new.executor,
          subst (λ old. MergeIsCounted own.parts theirs.parts query (setting_at c.self.inside.means.limit query) old writes c.join.new.executor
              written) c.new.ensures (c.in_ok-joined.ensures.ran.ran.counted right),
        ),
      );
    })

pub returns-in_err-joined : goal.returns-in_err-joined
returns-in_err-joined g c =
    let own = c.in-Some.own.now in
    let theirs = c.in-Some-get.theirs.now in
    let error = c.in_err-joined.field-0.0 in
    let store : Store = record {
      columns = c.self.inside.columns;
      query = c.self.inside.query;
      replicas = c.self.inside.replicas.entries;
      saved = c.self.inside.saved.entries;
      limit = c.self.inside.means.limit;
      seed = c.self.inside.means.seed;
    } in
    let e = err_from_is_err_and c.from_residual.result c.from_residual.ensures.1 in
    let one = sym c.get.ensures.value ∙ ap option_copied c.in-Some.is in
    let two = sym c.get-2.ensures.value ∙ ap option_copied c.in-Some-get.is in
    let ran = c.in_err-joined.ensures.ran.ran in
    let apart : IsApart own theirs e.0 = (error, e.2, c.in_err-joined.ensures.joins.refused) in
    rw e.1
    (subst (λ (s : Store). JoinsNamed g.D.TapeDisk s c.args.into.now c.args.from.now c.args.disk.now (Err e.0) c.join.new.disk)
    c.self.view_is
    (record {
      joins = joins_names (g.D.TapeDisk.honest c.args.disk.now) store c.args.into.now c.args.from.now own theirs e.0 c.self.invariant one
          two apart;
      tells = λ owned. merge_tells store c.args.into.now c.args.from.now owned e.0 (own, one, (theirs, two, apart));
      undamaged = λ right is. ran.undamaged right
          (ap Refused (sym (merge_reasons error) ∙ ap refusal_reason (sym e.2 ∙ is)));
      disk = subst (λ n. DiskFrame g.D.TapeDisk n c.args.disk.now c.join.new.disk)
          (ap (λ r. faults_of (Refused r)) (sym (merge_reasons error)) ∙ reason_faults (merge_refusal error)
          ∙ ap refusal_faults (sym e.2)) ran.disk;
      limit = λ right owned. subst (λ w. WorksAtLimit store (ask.Merge c.args.into.now c.args.from.now) owned (says.Refused w)
          (g.D.TapeDisk.writes c.args.disk.now) (g.D.TapeDisk.writes c.join.new.disk)) (sym e.2)
          (unjoined_works store c.args.into.now c.args.from.now owned error _ _);
    }))
