use Rattle.std.proofs.Common.{sym, subst}
use Rattle.group_table.proofs.Words.{place_of, with_bytes, context_at, Context, IsRewritten}
use Rattle.group_table.proofs.TreeFacts.{at_same}
use Rattle.group_table.proofs.ArrayLaws.{rewritten_once}
use Rattle.group_table.proofs.array.put_into.Goals as goal

pub returns-clause-rewritten : goal.returns-clause-rewritten
returns-clause-rewritten c =
    let old = context_at c.args.tree.now c.args.id in
    let written = with_bytes old (place_of c.args.name) c.put.new.array in
    subst (λ (x : Context). IsRewritten old x c.args.name) (sym (at_same c.args.tree.now c.args.id written c.requires.array.within))
    (rewritten_once old c.requires.array.set c.args.name c.put.new.array c.requires.array.is_set
    (c.bytes_mut-array.ensures.lives c.put.new.array) (c.bytes_mut-array.ensures.keeps c.put.new.array))
