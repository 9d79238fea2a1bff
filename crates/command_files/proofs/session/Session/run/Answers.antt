use Rattle.std.specs.Prelude.{◌≡◌, ◌≢◌, refl, true, false, Bool, codes}
use Rattle.std.proofs.Common.{◌∙◌, ap, inr, sym}
use Rattle.script_io.specs.Fused.{has_failed}
use Rattle.replies.specs.declared.ending.ExitKind.{ExitKind}
use Rattle.replies.specs.declared.ending.ExitKind.TheVariants.{BadUsage, Done, Fault}
use Rattle.command_words.specs.Told.{is_flag_told, out_told}
use Rattle.command_streams.specs.declared.streams.Terminals.{Terminals}
use Rattle.command_files.proofs.RunningLaws.{done_behind, done_kept, found_out, found_stays, misused_said, shown_stops, stopped_behind}
use Rattle.command_files.proofs.RunningLaws.{stopped_kept}
use Rattle.command_files.proofs.session.Session.run.Goals as goal

-- a command is done only if it was before all was sent out
was_done : (has_failed : Bool) (exit result : ExitKind) → (has_failed ≡ false → result ≡ exit) → (has_failed ≡ true → result ≡ Fault)
    → result ≡ Done → exit ≡ Done
was_done false exit result sent failed done = sym (sent refl) ∙ done
was_done true exit result sent failed done = let e : Fault ≡ Done = sym (failed refl) ∙ done in absurd cc

-- and where no call of the output failed, it ends as it did before
was_same : (has_failed : Bool) (exit result : ExitKind) → (has_failed ≡ false → result ≡ exit) → (has_failed ≡ true → result ≡ Fault)
    → result ≢ Fault → result ≡ exit
was_same false exit result sent failed sound = sent refl
was_same true exit result sent failed sound = absurd (sound (failed refl))

pub returns-clause-done : goal.returns-clause-done
returns-clause-done g c is =
    let told = c.finish.ensures in
    let exit = c.run_looked-exit.result in
    let was = was_done (has_failed c.finish.new.self.streams.writer.now) exit c.finish.result told.sent told.failed is in
    let done = c.run_looked-exit.ensures.done was in
    let begun = done_behind _ g.W.Write.contents c.args.subcommand c.args.matches.now 0 c.args.self.now.reporter c.set_piped.new.self _
    c.set_piped.ensures.output done in
    done_kept _ c.args.subcommand c.args.matches.now 0 _ _ _ told.keeps begun

pub returns-clause-stopped : goal.returns-clause-stopped
returns-clause-stopped g c sound =
    let told = c.finish.ensures in
    let exit = c.run_looked-exit.result in
    let same = was_same (has_failed c.finish.new.self.streams.writer.now) exit c.finish.result told.sent told.failed sound in
    let begun = stopped_behind _ g.W.Write.contents c.args.subcommand c.args.matches.now exit c.args.self.now.reporter
    c.set_piped.new.self _ c.set_piped.ensures.output (c.run_looked-exit.ensures.stopped (λ fault. sound (same ∙ fault))) in
    stopped_kept _ c.args.subcommand c.args.matches.now exit c.finish.result _ _ _ told.keeps same begun

pub returns-in-Some-clause-stopped : goal.returns-in-Some-clause-stopped
returns-in-Some-clause-stopped g c sound =
    let found = c.in-Some.ensures.stays in
    let looked = c.look-looked in
    let matches = c.args.matches.now in
    stopped_behind _ g.W.Write.contents c.args.subcommand matches BadUsage c.args.self.now.reporter c.set_piped.new.self _
    c.set_piped.ensures.output
    (misused_said _ g.W.Write.contents c.args.subcommand matches BadUsage c.set_piped.new.self c.say.new.self refl (inr (
      found_out (out_told c.args.subcommand matches) looked.result c.in-Some.standing looked.ensures.none found.0,
      found_stays (is_flag_told matches (codes "no-clobber")) (is_flag_told matches (codes "force")) looked.result c.in-Some.standing
          looked.ensures.goes_on found.0 found.1,
    )) c.say.ensures.says)

pub returns-clause-shown : goal.returns-clause-shown
returns-clause-shown g c piped shown unforced =
    let looked = c.look-looked in
    let terminal = ap (λ (t : Terminals). t.output) c.terminals-is_terminal.ensures ∙ shown in
    absurd (shown_stops looked.result (looked.ensures.terminal piped terminal unforced) (looked.ensures.shown piped)
    c.in_default.ensures.goes_on)
