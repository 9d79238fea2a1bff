use Rattle.chunk_contexts.proofs.Laws.{common_steps, nat_tests}
use Rattle.std.proofs.Common.{◌-◌, refl, sym, ap, ◌∙◌, subst, rules, arith}
use Rattle.chunk_contexts.proofs.Words.{place_of, rewritten, layout_with, Place, live, free_rooms}
use Rattle.chunk_contexts.specs.Set.{SetState, set_wrote}
use Rattle.chunk_contexts.specs.SetFields.{IsSet}
use Rattle.chunk_contexts.proofs.OverLaws.{set-lent, live-over, rooms-over}
use Rattle.chunk_contexts.proofs.SetViews.{seen-only, asked-there, asked-len, asked-bytes}
use Rattle.chunk_contexts.proofs.Content.{name-there, rewriting}
use Rattle.chunk_contexts.proofs.alloc_set.AllocSetChunkContext.get_mut.Goals as goal

pub get_mut-requires : goal.get_mut-requires
get_mut-requires c = grind (arith, nat_tests, common_steps, asked-there, asked-len)

pub invariant_of-self-lent : goal.invariant_of-self-lent
invariant_of-self-lent c = λ w.
    let x = c.self.inside in
    let only = seen-only c.self.inside c.self.invariant c.args.self.now c.self.view_is (place_of c.args.name)
    (name-there c.args.self.now.chunks c.args.name c.requires) in
    record {
      set = subst (λ (p : Place). IsSet (layout_with x.lists.layout p w) x.lists.heads x.active x.first) (sym c.place.ensures)
          (set-lent x.lists.layout x.lists.heads x.active x.first c.self.invariant.set (place_of c.args.name) w only);
      next = c.self.invariant.next;
    }

pub returns : goal.returns
returns c =
    let x = c.self.inside in let l = x.lists.layout in let places = c.self.invariant.set.lists.links.places in let place = place_of
    c.args.name in
    let bytes = c.get_mut.ensures.value ∙ asked-bytes c.self.inside c.self.invariant c.args.self.now c.self.view_is c.args.name c.requires _
    c.place.ensures in (
      (
        refl,
        λ w.
            let chunks = ap (λ (p : Place). live (rewritten l.contents p w)) c.place.ensures ∙ live-over place w l.contents places in
            let free = ap (λ (p : Place). free_rooms (rewritten l.contents p w)) c.place.ensures ∙ rooms-over place w l.contents places in
            (λ i. record {
              chunks = chunks i;
              blocks = l.blocks;
              free = free i;
              left = x.active.size - x.active.used;
              next = x.next;
              first =
                  x.first;
            }) ∙ ap (λ (s : SetState). set_wrote s place w) c.self.view_is,
      ),
      search (rules, rewriting),
    )
