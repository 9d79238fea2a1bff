use Rattle.std.proofs.Common.{◌≡◌, List, [], ◌∷◌, ◌++◌, Option, Some, None, length, sym, ap, ◌∙◌, subst, arith}
use Rattle.std.proofs.lemmas.List.{get_or_past, length-append}
use Rattle.context_tree.specs.SlotLaws.{placed-here, placed-other}
use Rattle.context_tree.proofs.Words.{placed, IsForest, IsMadeBelow, AreFree, Link}
use Rattle.context_tree.specs.Lemmas.Forest.{forest-added}
use Rattle.context_tree.proofs.Slots.{placed-end, free-pushed}
use Rattle.context_tree.proofs.links.Links.push.Goals as goal

pub invariant_of-self-2 : goal.invariant_of-self-2
invariant_of-self-2 c =
    let ls = c.self.inside.links.items in let link = c.args.link in let slot = length ls in
    let view : ls ≡ c.args.self.now = c.self.view_is in
    let items : c.push_reserved.new.self.items ≡ ls ++ Some link ∷ [] = c.push_reserved.ensures.items
    ∙ ap (λ (l : List (Option Link)). l ++ Some link ∷ []) c.reserve.ensures.items in
    let made : IsMadeBelow ls slot link.stamp link.parent = subst (λ (l : List (Option Link)). IsMadeBelow l (length l) link.stamp
    link.parent) (sym view) c.requires.below in
    let forest : IsForest (placed ls slot (Some link)) = forest-added ls c.self.invariant.forest slot link
    (get_or_past ls slot None (omega arith)) made (placed ls slot (Some link)) (placed-here ls slot (Some link) None (omega arith))
    (λ k ne. placed-other ls slot k (Some link) None (omega arith) ne) in
    record {
      forest = subst IsForest (placed-end ls (Some link) ∙ sym items) forest;
      free = subst (λ (l : List (Option Link)). AreFree l c.make_mark.new.free) (sym items)
          (free-pushed ls c.self.inside.free c.make_mark.new.free link c.self.invariant.free
          (omega (arith, c.len-slot.ensures.value, c.in_ok-make_mark.ensures.room)) c.in_ok-make_mark.ensures.long
          c.in_ok-make_mark.ensures.same);
      few = omega (arith, ap length items, length-append ls (Some link ∷ []), c.len-slot.ensures.value, c.if-slot.false);
    }

pub returns-clause-added : goal.returns-clause-added
returns-clause-added c =
    let ls = c.self.inside.links.items in let link = c.args.link in
    let items : c.push_reserved.new.self.items ≡ ls ++ Some link ∷ [] = c.push_reserved.ensures.items
    ∙ ap (λ (l : List (Option Link)). l ++ Some link ∷ []) c.reserve.ensures.items in
    items ∙ sym (placed-end ls (Some link)) ∙ (λ i. placed (c.self.view_is i) (sym c.len-slot.ensures.value i) (Some link))
