use Rattle.std.proofs.Common.{◌≡◌, List, length, set, refl, sym, ap, ◌∙◌, arith}
use Rattle.std.proofs.lemmas.List.{length-set}
use Rattle.context_tree.proofs.Words.{placed, Context}
use Rattle.context_tree.proofs.Slots.{refill-whole, placed-set, placed-end}
use Rattle.context_tree.proofs.tree.put_context.Goals as goal

pub returns-then-slot-len : goal.returns-then-slot-len
returns-then-slot-len c =
    let cs = c.args.contexts.now.items in let slot = c.args.slot in let it = c.args.context in
    let items : c.replace.new.contexts ≡ set cs slot it = c.replace.ensures
    ∙ ap (λ (l : List Context). set l slot it) c.deref_mut.ensures.value in
    refill-whole (length cs) cs c.replace.new.contexts refl (ap length items ∙ length-set cs slot it) ∙ items
    ∙ placed-set cs slot it (omega (arith, c.if-slot-len.true, c.len.ensures.value))

pub returns : goal.returns
returns c =
    let cs = c.args.contexts.now.items in let it = c.args.context in
    let end : length cs ≡ c.args.slot = omega (arith, c.if-slot-len.false, c.len.ensures.value, c.requires.low) in
    c.push_reserved.ensures.items ∙ sym (placed-end cs it) ∙ (λ i. placed cs (end i) it)
