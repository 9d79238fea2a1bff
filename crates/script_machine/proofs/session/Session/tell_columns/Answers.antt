use Rattle.std.specs.Prelude.{◌≡◌, false}
use Rattle.std.proofs.Common.{◌∙◌, ap, sym, subst}
use Rattle.std.specs.Option.{is_some}
use Rattle.script_machine.proofs.Words.{is_tape_fault, Store}
use Rattle.replies.specs.declared.reply.Reply.TheVariants as says
use Rattle.replies.specs.ReplyLaws.{row_tells}
use Rattle.script_machine.proofs.StoreLaws.{columns_there, columns_told, no_schema, turns_it}
use Rattle.script_machine.proofs.session.Session.tell_columns.Goals as goal

pub returns-then-is_some-clause-answers : goal.returns-then-is_some-clause-answers
returns-then-is_some-clause-answers c = λ honest owned. columns_there c.args.self.now c.args.text.now owned
    (ap (λ (s : Store). is_some s.columns) (sym c.self.view_is) ∙ sym c.is_some.ensures ∙ c.if-is_some.true)

pub returns-in-Ok-clause-answers : goal.returns-in-Ok-clause-answers
returns-in-Ok-clause-answers c = λ honest owned.
    turns_it c.self.view_is (columns_told _ c.args.text.now owned c.in-Ok.schema c.width-count.result (sym c.is_some.ensures
    ∙ c.if-is_some.false) c.in-Ok.ensures.parsed c.width-count.ensures.width)

pub returns-in-Err : goal.returns-in-Err
returns-in-Err c = record {
  answers = λ honest owned. no_schema c.args.self.now c.args.text.now owned c.in-Err.error c.from.result
      (ap (λ (s : Store). is_some s.columns) (sym c.self.view_is) ∙ sym c.is_some.ensures ∙ c.if-is_some.false)
      c.in-Err.ensures.refused c.from.ensures;
  faultless = subst (λ w. is_tape_fault (says.Refused w) ≡ false) (sym c.from.ensures) (row_tells c.in-Err.error);
}
