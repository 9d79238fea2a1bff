use Rattle.context_tree.specs.Tree.{context_at}
use Rattle.group_table.proofs.SearchLaws.{none_at_first, none_at_last, free_at_first, free_at_last, not_passed}
use Rattle.group_table.proofs.search.search.Goals as goal

pub returns-in-Free : goal.returns-in-Free
returns-in-Free c =
    let keys = context_at c.args.tree.now c.args.keys in let array = c.args.array.now in let start = c.start_of-start in (
      none_at_first keys array c.args.count start.result c.args.hash c.args.key.now c.requires.index start.ensures.start c.in-Free.place
          start.ensures.within c.in-Free.ensures,
      free_at_first keys array c.args.count start.result c.args.hash c.args.key.now c.requires.index start.ensures.start c.in-Free.place
          start.ensures.within c.in-Free.ensures,
    )

pub returns-in-Free-look : goal.returns-in-Free-look
returns-in-Free-look c =
    let keys = context_at c.args.tree.now c.args.keys in let array = c.args.array.now in let start = c.start_of-start in (
      none_at_last keys array c.args.count start.result c.args.hash c.args.key.now c.requires.index start.ensures.start start.ensures.within
          c.in-Passed.ensures c.in-Free-look.place c.in-Free-look.ensures,
      free_at_last keys array c.args.count start.result c.args.hash c.args.key.now c.requires.index start.ensures.start start.ensures.within
          c.in-Passed.ensures c.in-Free-look.place c.in-Free-look.ensures,
    )

pub unreachable-requires : goal.unreachable-requires
unreachable-requires c =
    let keys = context_at c.args.tree.now c.args.keys in let array = c.args.array.now in let start = c.start_of-start in
    not_passed keys array c.args.count start.result c.args.hash c.args.key.now c.requires.index start.ensures.start start.ensures.within
    c.in-Passed.ensures c.requires.room c.in-Passed-look.ensures
