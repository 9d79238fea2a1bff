use Rattle.std.proofs.Common.{ℕ, List, ap, ◌∙◌}
use Rattle.context_tree.specs.Calls.{written}
use Rattle.context_tree.proofs.TreeLaws.{written-on}
use Rattle.context_tree.proofs.tree.Tree.write.Goals as goal

pub returns-clause-written : goal.returns-clause-written
returns-clause-written c =
    let lent = c.bytes_mut-chunk.ensures in let new = c.overwrite.new.chunk in
    written-on c.args.self.now c.args.id c.args.name c.args.at c.args.bytes.now new c.in_ok-check.ensures c.is_whole.ensures
    (c.overwrite.ensures ∙ ap (λ (b : List ℕ). written b c.args.at c.args.bytes.now) lent.bytes)
    (lent.lives new) (lent.holds new (c.overwrite.auto.chunk ∙ lent.len)) (lent.keeps new)
