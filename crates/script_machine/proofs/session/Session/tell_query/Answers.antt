use Rattle.std.proofs.Common.{◌∙◌, sym}
use Rattle.script_machine.proofs.StoreLaws.{leaves_it, query_refused, query_there, query_told, query_too_early, store_asked, turns_it}
use Rattle.script_machine.proofs.session.Session.tell_query.Goals as goal

pub returns-in_default-clause-answers : goal.returns-in_default-clause-answers
returns-in_default-clause-answers c = λ honest owned. leaves_it c.self.view_is (query_too_early _ c.args.text.now owned c.in_default.is)

pub returns-then-is_some-clause-answers : goal.returns-then-is_some-clause-answers
returns-then-is_some-clause-answers c = λ honest owned. leaves_it c.self.view_is (query_there _ c.args.text.now owned c.in-Some.schema
    c.in-Some.is (sym c.is_some.ensures ∙ c.if-is_some.true))

pub invariant_of-self : goal.invariant_of-self
invariant_of-self c =
    store_asked (record {
      columns = c.self.inside.columns;
      query = c.self.inside.query;
      replicas = c.self.inside.replicas.entries;
      saved =
          c.self.inside.saved.entries;
      limit = c.self.inside.means.limit;
      seed = c.self.inside.means.seed;
    })
    c.in-Some.schema c.in-Ok.query c.self.invariant c.in-Some.is (sym c.is_some.ensures ∙ c.if-is_some.false) c.in-Ok.ensures.columns

pub returns-in-Ok-clause-answers : goal.returns-in-Ok-clause-answers
returns-in-Ok-clause-answers c = λ honest owned.
    turns_it c.self.view_is (query_told _ c.args.text.now owned c.in-Some.schema c.in-Ok.query c.in-Ok.canonical c.in-Some.is
    (sym c.is_some.ensures ∙ c.if-is_some.false)
    c.in-Ok.ensures.read.0 c.in-Ok.ensures.read.1)

pub returns-in-Err-clause-answers : goal.returns-in-Err-clause-answers
returns-in-Err-clause-answers c = λ honest owned.
    leaves_it c.self.view_is (query_refused _ c.args.text.now owned c.in-Some.schema c.in-Err.why c.in-Some.is (sym c.is_some.ensures
    ∙ c.if-is_some.false) c.in-Err.ensures.why)
