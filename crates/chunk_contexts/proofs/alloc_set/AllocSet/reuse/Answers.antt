use Rattle.chunk_contexts.proofs.Laws.{common_steps, nat_tests}
use Rattle.std.proofs.Common.{[], true, inl, refl, sym, subst, arith}
use Rattle.chunk_contexts.proofs.Words.{Layout, AreLists}
use Rattle.chunk_contexts.specs.SetFields.{IsSet}
use Rattle.chunk_contexts.proofs.FreeLaws.{in-free_rooms}
use Rattle.chunk_contexts.proofs.ListLaws.{was, live-reused, rooms-reused, fresh-reused}
use Rattle.chunk_contexts.proofs.SetLaws.{set-put}
use Rattle.chunk_contexts.proofs.alloc_set.AllocSet.reuse.Goals as goal

pub invariant_of-self-2 : goal.invariant_of-self-2
invariant_of-self-2 c =
    let x = c.self.inside in let l = x.lists.layout in let is = c.self.invariant.set in let place = c.in-Some.place in let n =
    c.reuse.new.self in
    let w = was l x.lists.heads is.lists c.args.class place c.requires c.in-Some.ensures.some in
    let lists = subst (λ (z : Layout). AreLists z n.heads) c.in-Some.ensures.taken c.reuse.ensures.lists in
    record {
      set = subst (λ (z : Layout). IsSet z n.heads x.active x.first) (sym c.in-Some.ensures.taken)
          (set-put l x.lists.heads x.active x.first is place w.there 0 [] true n.heads (inl refl) lists);
      next = c.self.invariant.next;
    }

pub returns-clause-some : goal.returns-clause-some
returns-clause-some c = grind (arith, nat_tests, common_steps, live-reused, rooms-reused, in-free_rooms)

pub returns-clause-fresh : goal.returns-clause-fresh
returns-clause-fresh c = grind (arith, nat_tests, common_steps, fresh-reused)

pub returns-in_default-clause-none : goal.returns-in_default-clause-none
returns-in_default-clause-none c = grind (arith, nat_tests, common_steps, in-free_rooms)
