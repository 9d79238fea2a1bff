use Rattle.std.proofs.Common.{◌≡◌, subst}
use Rattle.context_tree.proofs.RootLaws.{root_held}
use Rattle.context_tree.specs.Tree.{TreeState, held_from}
use Rattle.context_tree.proofs.tree.Tree.sum_from.Goals as goal

pub returns-then-slot-eq-ROOT : goal.returns-then-slot-eq-ROOT
returns-then-slot-eq-ROOT c =
    let x = c.self.inside in
    subst (λ (t : TreeState). x.held ≡ held_from t.links c.args.slot 0 t.contexts) c.self.view_is
    (root_held x.links x.contexts.items c.args.slot x.held c.is_forest.ensures c.self.invariant.empty c.self.invariant.held
    c.if-slot-eq-ROOT.true)
