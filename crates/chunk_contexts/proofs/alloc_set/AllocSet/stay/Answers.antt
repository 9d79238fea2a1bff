use Rattle.chunk_contexts.proofs.Laws.{common_steps, nat_tests}
use Rattle.std.proofs.Common.{arith}
use Rattle.chunk_contexts.proofs.SetViews.{seen, seen-there, fields-resized, state-resized}
use Rattle.chunk_contexts.proofs.alloc_set.AllocSet.stay.Goals as goal

pub resize-requires : goal.resize-requires
resize-requires c = grind (
  arith,
  nat_tests,
  common_steps,
  seen c.self.inside c.self.invariant c.args.self.now c.self.view_is c.args.place,
  seen-there c.self.inside c.self.invariant c.args.self.now c.self.view_is c.args.place,
)

pub invariant_of-self : goal.invariant_of-self
invariant_of-self c = fields-resized c.self.inside c.self.invariant c.args.self.now c.self.view_is c.args.place c.requires.there
    c.args.place c.requires.there c.args.n c.resize.new.self c.resize.ensures

pub returns-clause-put : goal.returns-clause-put
returns-clause-put c = state-resized c.self.inside c.self.invariant c.args.self.now c.self.view_is c.args.place c.requires.there
    c.args.place c.requires.there c.args.n c.resize.new.self c.resize.ensures
