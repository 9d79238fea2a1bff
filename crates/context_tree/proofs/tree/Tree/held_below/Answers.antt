use Rattle.std.proofs.Common.{arith}
use Rattle.context_tree.proofs.Bounds.{below-all}
use Rattle.context_tree.proofs.tree.Tree.held_below.Goals as goal

pub returns-clause-bound : goal.returns-clause-bound
returns-clause-bound c =
    let t = c.args.self.now in
    let less = below-all t.links c.args.id.slot 0 t.contexts in
    omega (arith, less, c.is_bounded.ensures, c.sum_from-sum.ensures, c.from.ensures)
