use Rattle.std.specs.Prelude.{◌≡◌, false, is_none, IsSome, Option, Some, None, refl}
use Rattle.std.proofs.Common.{inr, subst, sym}
use Rattle.script_io.specs.Fused.{written}
use Rattle.replies.specs.Text.{said_text}
use Rattle.replies.specs.declared.reply.Reply.TheVariants.{Refused}
use Rattle.command_streams.specs.Stopping.{RepliesRefused}
use Rattle.command_scripts.proofs.Ends.{script_ends}
use Rattle.command_scripts.proofs.run_script.Goals as goal

-- what there is is not absent
is_there : {A : Type 0} (option : Option A) → IsSome option → is_none option ≡ false
is_there None some = sym some
is_there (Some value) some = refl

pub returns-in-Err-clause-ends : goal.returns-in-Err-clause-ends
returns-in-Err-clause-ends g c = inr (inr (
  is_there c.args.spill c.in-Err.ensures.asked,
  subst (λ w. RepliesRefused (said_text (Refused w)) (written g.W.Write.contents c.args.streams.now.writer.now)
      (written g.W.Write.contents c.stop.new.streams.writer.now) w c.stop.result) c.in-Err.ensures.why c.stop.ensures,
))

pub returns-clause-ends : goal.returns-clause-ends
returns-clause-ends g c = script_ends (is_none c.args.spill) _ g.W.Write.contents _ _ c.in-Ok.disk
    c.run_script_over-exit.new.disk c.run_script_over-exit.result c.in-Ok.ensures.place c.run_script_over-exit.ensures.ends
