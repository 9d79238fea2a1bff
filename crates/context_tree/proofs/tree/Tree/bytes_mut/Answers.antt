use Rattle.std.proofs.Common.{◌≡◌, Option, get_or, subst}
use Rattle.std.specs.Prelude.{IfSome}
use Rattle.std.specs.Borrow.{MutBor}
use Rattle.context_tree.proofs.Words.{place_of, with_bytes, Context}
use Rattle.context_tree.proofs.Bounds.{written-held}
use Rattle.context_tree.proofs.TreeLaws.{fields-lent}
use Rattle.context_tree.proofs.tree.Tree.bytes_mut.Goals as goal

pub invariant_of-self-lent : goal.invariant_of-self-lent
invariant_of-self-lent c w =
    let x = c.self.inside in let was = c.unwrap-context.result.now in let place = place_of c.args.name in
    let is : was ≡ get_or x.contexts.items c.args.id.slot was =
    subst (λ (o : Option (MutBor Context)). IfSome o (λ r. r.now ≡ get_or x.contexts.items c.args.id.slot r.now)) c.unwrap-context.ensures
    c.get_mut.ensures.value in
    fields-lent x c.self.invariant c.args.self.now c.self.view_is c.args.id c.requires.there was (with_bytes was place w) is
    (written-held was place w)
