use Rattle.std.proofs.Common.{◌∙◌, sym, subst}
use Rattle.hash_agg.specs.Means.{MeansState}
use Rattle.script_commands.specs.Commands as ask
use Rattle.script_machine.specs.Views.{Store, Steps}
use Rattle.replies.specs.declared.reply.Reply.TheVariants as says
use Rattle.script_machine.proofs.StoreLaws.{limit_refused, limit_told, turns_it}
use Rattle.script_machine.proofs.session.Session.tell_limit.Goals as goal

pub returns-in-Ok-clause-answers : goal.returns-in-Ok-clause-answers
returns-in-Ok-clause-answers c = λ honest owned.
    let within = c.in-Ok.ensures.within in
    let old : Store = record {
      columns = c.self.inside.columns;
      query = c.self.inside.query;
      replicas = c.self.inside.replicas.entries;
      saved = c.self.inside.saved.entries;
      limit = c.self.inside.means.limit;
      seed = c.self.inside.means.seed;
    } in
    turns_it c.self.view_is
    (subst (λ (m : MeansState _). Steps honest (ask.Limit c.args.bytes) owned old (says.Limit c.args.bytes)
    (record old { limit = m.limit; seed = m.seed }))
    (sym (c.with_seed-self-inside.ensures ∙ (λ i. record (c.in-Ok.ensures.means i) { seed = c.seed.ensures i })))
    (limit_told old c.args.bytes owned within.0 within.1))

pub returns-in-Err-clause-answers : goal.returns-in-Err-clause-answers
returns-in-Err-clause-answers c = λ honest owned.
    subst (λ r. Steps honest (ask.Limit c.args.bytes) owned c.args.self.now (says.Refused r) c.args.self.now) (sym c.from.ensures)
    (limit_refused c.args.self.now c.args.bytes owned c.in-Err.ensures.refused)
