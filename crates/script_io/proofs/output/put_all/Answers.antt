use Rattle.std.proofs.Common.{is_some, ap, sym}
use Rattle.script_io.proofs.OutputFacts.{short-at, within-more, wrote-more}
use Rattle.script_io.proofs.output.put_all.Goals as goal

pub loop-at-preserved : goal.loop-at-preserved
loop-at-preserved g c =
    let bound = rw c.in-Ok.is at c.write.ensures.bound in
    let wrote = rw c.in-Ok.is at c.write.ensures.bytes in (
      within-more c.loop-at.at c.in-Ok.count c.args.bytes.now c.loop-at.invariant.0 bound,
      wrote-more _ _ _ c.loop-at.at c.in-Ok.count c.args.bytes.now c.loop-at.invariant.1 wrote,
      λ _. ap is_some (rw c.in-Ok.is at c.write.ensures.fault),
    )

pub returns-in-Err : goal.returns-in-Err
returns-in-Err g c =
    let short = short-at _ _ _ c.loop-at.at c.args.bytes.now c.loop-at-test.true c.loop-at.invariant.1 c.in-Err.ensures.bytes in
    (short, λ _. sym (ap is_some c.in-Err.ensures.fault))
