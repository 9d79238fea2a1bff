use Rattle.std.proofs.Common.{ap, inl}
use Rattle.command_scripts.proofs.Ends.{ran_script, right_over}
use Rattle.command_scripts.proofs.run_script_over.Goals as goal

pub returns-in-Ok-clause-ends : goal.returns-in-Ok-clause-ends
returns-in-Ok-clause-ends g c = inl (
  _,
  ran_script _ _ _ g.W.Write.contents c.new-script.result c.run_over.new.script _ _ _ _ c.run_over.result _
      (ap (λ r. g.I.Read.remaining r.now) c.new-script.ensures.behind) c.run_over.ensures,
)

pub returns-in-Ok-clause-right : goal.returns-in-Ok-clause-right
returns-in-Ok-clause-right g c =
    right_over g.D.TapeDisk _ g.W.Write.contents _ _ _ _ c.run_over.result (returns-in-Ok-clause-ends g c)
