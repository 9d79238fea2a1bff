use Rattle.origin_prefix.proofs.Lists.{popped}
use Rattle.origin_prefix.proofs.early.drop_first.Goals as goal

pub loop-preserved : goal.loop-preserved
loop-preserved c =
    popped c.pop_first.result c.loop.counter c.args.early.now.entries c.loop.early.entries c.pop_first.new.self.entries
    c.pop_first.ensures.variant.1 c.pop_first.ensures.removal c.pop_first.ensures.unchanged c.loop.invariant
