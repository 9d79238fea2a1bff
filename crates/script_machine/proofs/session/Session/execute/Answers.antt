use Rattle.std.specs.Prelude.{◌≡◌, refl, drop, take, ℕ, []}
use Rattle.std.proofs.Common.{◌∙◌, ap, sym, subst}
use Rattle.std.proofs.lemmas.Result.{err_from_is_err_and}
use Rattle.csv.specs.Records.{fields_of}
use Rattle.script_commands.specs.Commands as ask
use Rattle.script_machine.proofs.Words.{owned_by, request_of, faults_in, Executes}
use Rattle.script_commands.specs.Views.{request_view}
use Rattle.script_commands.specs.declared.request.Request.{Request}
use Rattle.script_commands.specs.Lemmas.CommandLaws.{owned_told}
use Rattle.tape_disks.specs.DiskLaws.{leaves_none}
use Rattle.refusals.specs.declared.refusal.Refusal.TheVariants as why
use Rattle.replies.specs.declared.reply.Reply.TheVariants as says
use Rattle.script_machine.proofs.ExecuteLaws.{idle}
use Rattle.script_machine.proofs.StoreLaws.{refused}
use Rattle.script_machine.proofs.session.Session.execute.Goals as goal
use Rattle.script_machine.proofs.session.Session.execute.Goals.{in-Columns, in-Query, in-Limit, in-Replica, in-Known, in-Answer, in-Merge}
use Rattle.script_machine.proofs.session.Session.execute.Goals.{in-Save, in-Load, in-Unknown}

pub returns-in-Feed-clause-executes : goal.returns-in-Feed-clause-executes
returns-in-Feed-clause-executes g c =
    let head = fields_of c.args.command.now.head in
    let asks = sym c.request.ensures ∙ ap request_view c.in-Feed.is in
    let told = owned_told head _ _ _ _ asks in
    rw (asks, told) c.feed.ensures.executes

pub returns-in-Feed-clause-left : goal.returns-in-Feed-clause-left
returns-in-Feed-clause-left g c =
    let head = fields_of c.args.command.now.head in
    let asks = sym c.request.ensures ∙ ap request_view c.in-Feed.is in
    let told = owned_told head _ _ _ _ asks in
    rw told c.feed.ensures.left

pub returns-clause-executes : goal.returns-clause-executes
returns-clause-executes g c =
    let tapes = g.D.TapeDisk in
    let disk = c.args.disk.now in
    let honest = g.D.TapeDisk.honest disk in
    let head = fields_of c.args.command.now.head in
    let owned = take (owned_by head) c.args.records.now in
    let asks : (r : Request) → c.request.result ≡ r → request_view r ≡ request_of head = λ r is. sym (ap request_view is)
    ∙ c.request.ensures in
    elim c.match-request.branch [
      | in-Columns w ↦ rw (w.reply-is, w.self-is, w.disk-is)
          (subst (λ r. Executes tapes r owned c.args.self.now disk w.tell_columns-reply.result w.tell_columns-reply.new.self disk)
          (asks _ w.in-Columns.is) (idle tapes _ owned c.args.self.now _ disk _ (w.tell_columns-reply.ensures.answers honest owned) tt
          w.tell_columns-reply.ensures.faultless refl))
      | in-Query w ↦ rw (w.reply-is, w.self-is, w.disk-is)
          (subst (λ r. Executes tapes r owned c.args.self.now disk w.tell_query-reply.result w.tell_query-reply.new.self disk)
          (asks _ w.in-Query.is) (idle tapes _ owned c.args.self.now _ disk _ (w.tell_query-reply.ensures.answers honest owned) tt
          w.tell_query-reply.ensures.faultless refl))
      | in-Limit w ↦ rw (w.reply-is, w.self-is, w.disk-is)
          (subst (λ r. Executes tapes r owned c.args.self.now disk w.tell_limit-reply.result w.tell_limit-reply.new.self disk)
          (asks _ w.in-Limit.is) (idle tapes _ owned c.args.self.now _ disk _ (w.tell_limit-reply.ensures.answers honest owned) tt
          w.tell_limit-reply.ensures.faultless refl))
      | in-Replica w ↦ rw (w.reply-is, w.self-is, w.disk-is)
          (subst (λ r. Executes tapes r owned c.args.self.now disk w.add_replica-reply.result w.add_replica-reply.new.self disk)
          (asks _ w.in-Replica.is) (idle tapes _ owned c.args.self.now _ disk _ (w.add_replica-reply.ensures.answers honest owned) tt
          w.add_replica-reply.ensures.faultless refl))
      | in-Known w ↦ rw (w.reply-is, w.self-is, w.disk-is)
          (subst (λ r. Executes tapes r owned c.args.self.now disk w.known-reply.result c.args.self.now disk)
          (asks _ w.in-Known.is) (idle tapes _ owned c.args.self.now _ disk _ (w.known-reply.ensures.answers honest owned) tt
          w.known-reply.ensures.faultless refl))
      | in-Answer w ↦ rw (w.reply-is, w.self-is, w.disk-is)
          (subst (λ r. Executes tapes r owned c.args.self.now disk w.answer-reply.result c.args.self.now disk)
          (asks _ w.in-Answer.is) (idle tapes _ owned c.args.self.now _ disk _ (w.answer-reply.ensures.answers honest owned) tt
          w.answer-reply.ensures.faultless refl))
      | in-Merge w ↦ rw (w.reply-is, w.self-is, w.disk-is)
          (subst (λ r. Executes tapes r owned c.args.self.now disk w.merge-reply.result w.merge-reply.new.self w.merge-reply.new.disk)
          (asks _ w.in-Merge.is) (w.merge-reply.ensures owned))
      | in-Save w ↦ rw (w.reply-is, w.self-is, w.disk-is)
          (subst (λ r. Executes tapes r owned c.args.self.now disk w.save-reply.result w.save-reply.new.self disk)
          (asks _ w.in-Save.is) (idle tapes _ owned c.args.self.now _ disk _ (w.save-reply.ensures.answers honest owned) tt
          w.save-reply.ensures.faultless refl))
      | in-Load w ↦ rw (w.reply-is, w.self-is, w.disk-is)
          (subst (λ r. Executes tapes r owned c.args.self.now disk w.load-reply.result w.load-reply.new.self disk)
          (asks _ w.in-Load.is) (idle tapes _ owned c.args.self.now _ disk _ (w.load-reply.ensures.answers honest owned) tt
          w.load-reply.ensures.faultless refl))
      | in-Unknown w ↦ rw (w.reply-is, w.self-is, w.disk-is)
          (subst (λ r. Executes tapes r owned c.args.self.now disk (says.Refused why.BadCommand) c.args.self.now disk)
          (asks _ w.in-Unknown.is) (idle tapes ask.Unknown owned c.args.self.now c.args.self.now disk (says.Refused why.BadCommand)
          (refused ask.Unknown owned c.args.self.now why.BadCommand (λ state r. refl)) tt refl refl))
    ]

pub returns-clause-left : goal.returns-clause-left
returns-clause-left g c = c.in_ok-skip.ensures ∙ ap (λ (n : ℕ). drop n c.args.records.now) c.owned.ensures

pub returns-in_err-skip-clause-stopped : goal.returns-in_err-skip-clause-stopped
returns-in_err-skip-clause-stopped g c =
    let e = err_from_is_err_and c.from_residual.result c.from_residual.ensures.1 in
    let none = leaves_none g.D.TapeDisk c.args.disk.now in
    rw e.1 (elim c.match-request.branch [
      | in-Columns w ↦ rw w.disk-is (0, none)
      | in-Query w ↦ rw w.disk-is (0, none)
      | in-Limit w ↦ rw w.disk-is (0, none)
      | in-Replica w ↦ rw w.disk-is (0, none)
      | in-Known w ↦ rw w.disk-is (0, none)
      | in-Answer w ↦ rw w.disk-is (0, none)
      | in-Merge w ↦ rw w.disk-is (faults_in w.merge-reply.result, (w.merge-reply.ensures []).disk)
      | in-Save w ↦ rw w.disk-is (0, none)
      | in-Load w ↦ rw w.disk-is (0, none)
      | in-Unknown w ↦ rw w.disk-is (0, none)
    ])
