use Rattle.chunk_contexts.proofs.Laws.{common_steps, nat_tests}
use Rattle.std.proofs.Common.{arith}
use Rattle.chunk_contexts.proofs.SetViews.{seen, seen-there, fields-resized, state-resized}
use Rattle.chunk_contexts.proofs.alloc_set.AllocSet.fill.Goals as goal

pub copy_resized-requires : goal.copy_resized-requires
copy_resized-requires c = grind (arith, nat_tests, common_steps, seen-there, seen)

pub invariant_of-self : goal.invariant_of-self
invariant_of-self c = fields-resized c.self.inside c.self.invariant c.args.self.now c.self.view_is c.args.from c.requires.from c.args.to
    c.requires.to c.args.n c.copy_resized.new.self c.copy_resized.ensures

pub returns : goal.returns
returns c = state-resized c.self.inside c.self.invariant c.args.self.now c.self.view_is c.args.from c.requires.from c.args.to c.requires.to
    c.args.n c.copy_resized.new.self c.copy_resized.ensures
