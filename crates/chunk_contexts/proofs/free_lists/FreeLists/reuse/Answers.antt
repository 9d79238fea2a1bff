use Rattle.std.proofs.Common.{length, set, sym, ap, ◌∙◌, subst}
use Rattle.chunk_contexts.proofs.Words.{Layout, without, room_of, by_room, first_free, AreLists}
use Rattle.chunk_contexts.proofs.FreeLaws.{length-link}
use Rattle.chunk_contexts.proofs.ListLaws.{was, link-next, lists-reused}
use Rattle.chunk_contexts.proofs.free_lists.FreeLists.reuse.Goals as goal

pub take_first-requires : goal.take_first-requires
take_first-requires c =
    let s = c.args.self.now in let are = c.requires.lists in let low = c.requires.class in
    λ place is.
    let w = was s.layout s.heads are c.args.class place low (sym (are.firsts c.args.class low) ∙ is) in
    (w.there, ap length w.bytes ∙ length-link _)

pub returns-clause-lists : goal.returns-clause-lists
returns-clause-lists c =
    let s = c.args.self.now in let are = c.requires.lists in let low = c.requires.class in let place = c.in_ok-place.place in let e =
    c.in_ok-place.ensures in
    let first = sym (are.firsts c.args.class low) ∙ e.some.0 in
    let w = was s.layout s.heads are c.args.class place low first in
    let next = e.next (first_free by_room (room_of c.args.class) (without s.layout.contents place))
    (link-next s.layout s.heads are c.args.class place low first) w.bytes in
    subst (λ (l : Layout). AreLists l (set s.heads c.args.class c.take_first.new.first)) (sym e.some.1)
    (lists-reused s.layout s.heads are c.args.class place low first c.take_first.new.first next)
