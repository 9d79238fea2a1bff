use Rattle.std.proofs.Common.{arith}
use Rattle.context_tree.proofs.TreeLaws.{IsLent, old-held, fields-moved}
use Rattle.context_tree.proofs.tree.Tree.reset.Goals as goal

pub overflow_sub-self : goal.overflow_sub-self
overflow_sub-self c =
    let at : IsLent c.self.inside c.prune.new.self c.args.id c.deref_mut.result.now =
    record { are = c.self.invariant; view = c.self.view_is; there = c.prune.ensures.there; same = c.deref_mut.ensures.value } in
    let less = old-held _ _ _ _ at c.reset.new.self c.index-deref_mut-id.result in
    omega (arith, less, c.held-before.ensures)

pub invariant_of-self : goal.invariant_of-self
invariant_of-self c =
    let at : IsLent c.self.inside c.prune.new.self c.args.id c.deref_mut.result.now =
    record { are = c.self.invariant; view = c.self.view_is; there = c.prune.ensures.there; same = c.deref_mut.ensures.value } in
    let new = c.reset.new.self in let other = c.index-deref_mut-id.result in
    let less = old-held _ _ _ _ at new other in
    let before = c.held-before.ensures in let after = c.held.ensures in let most = c.reset.ensures.most in
    fields-moved _ _ _ _ at new other _ (omega (arith, less, before, after)) (omega (
      arith,
      less,
      before,
      after,
      most,
      at.are.held,
      at.are.bounded,
    ))
