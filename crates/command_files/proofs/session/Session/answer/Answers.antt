use Rattle.std.specs.Prelude.{codes, length}
use Rattle.std.proofs.Common.{◌∙◌, ap, subst}
use Rattle.command_words.specs.Told.{is_flag_told}
use Rattle.command_files.specs.Ending.{lacking_of}
use Rattle.command_files.specs.Reporting.{Prints}
use Rattle.command_files.proofs.ReportingLaws.{prints_before, says_more}
use Rattle.command_files.proofs.RunningLaws.{lacking_few}
use Rattle.command_files.proofs.session.Session.answer.Goals as goal

pub returns-in_ok-print-in-Ok-Ok : goal.returns-in_ok-print-in-Ok-Ok
returns-in_ok-print-in-Ok-Ok g c =
    let text = subst (λ l. Prints g.W.Write.contents c.args.self.now.reporter c.print.new.self l) c.deref.ensures.value
    c.in_ok-print-in-Ok-Ok.ensures.printed in
    let said = says_more c.print.new.self c.tell_waiting.new.self c.explain_answer.new.self.reporter c.tell_waiting.ensures.says
    c.explain_answer.ensures.says in
    record {
      answered = record {
        rows = c.in-Ok-Ok.found.0;
        table = c.in-Ok-Ok.found.1.items;
        answers = c.in-Ok-Ok.ensures';
        printed = prints_before g.W.Write.contents c.args.self.now.reporter c.print.new.self c.explain_answer.new.self.reporter
            c.in-Ok-Ok.found.1.items text said;
      };
      lacking = c.lacking-self.ensures ∙ ap (λ n. lacking_of (is_flag_told c.args.matches.now (codes "complete")) n)
          (ap length c.deref-in-Ok-Ok-2.ensures.value) ∙ lacking_few _ _ _ c.in-Ok-Ok.ensures.told;
      why = tt;
    }
