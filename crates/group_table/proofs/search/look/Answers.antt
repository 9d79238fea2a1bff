use Rattle.context_tree.specs.Tree.{context_at}
use Rattle.group_table.proofs.SearchLaws.{next_other}
use Rattle.group_table.proofs.search.look.Goals as goal

pub loop-place-preserved : goal.loop-place-preserved
loop-place-preserved c =
    next_other (context_at c.args.tree.now c.args.keys) c.args.array.now c.args.hash c.args.key.now c.args.from c.loop-place.place
    c.loop-place.invariant c.in-Passed.ensures
