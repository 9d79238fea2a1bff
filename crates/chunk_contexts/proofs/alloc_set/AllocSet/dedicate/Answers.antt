use Rattle.std.proofs.Common.{◌≡◌, ◌+◌, ◌-◌, ◌∷◌, ℕ, None, get_or, [], true, false, sym, ap, ◌∙◌, subst, arith}
use Rattle.chunk_contexts.proofs.Words.{Layout, ChunkContents, has, with_contents, with_block, size_at, Place, live, free_rooms}
use Rattle.chunk_contexts.proofs.Laws.{every_weaker, without-none, common_steps, nat_tests}
use Rattle.chunk_contexts.specs.Set.{SetState, dedicated}
use Rattle.chunk_contexts.specs.SetFields.{IsSet}
use Rattle.chunk_contexts.proofs.SetViews.{total-taken}
use Rattle.chunk_contexts.proofs.FreeLaws.{live-none}
use Rattle.chunk_contexts.proofs.SetLaws.{size-here, own-fresh, set-dedicated}
use Rattle.chunk_contexts.proofs.alloc_set.AllocSet.dedicate.Goals as goal

pub carve-requires-clause-inside : goal.carve-requires-clause-inside
carve-requires-clause-inside c =
    let x = c.self.inside in let l = x.lists.layout in let b = c.in_ok-block.block in let f = c.in_ok-block.ensures.was_free in let n =
    c.in_ok-block.ensures.name in
    let size : size_at c.take_block.new.self.blocks b ≡ c.args.room + 8 =
    ap (λ (z : Layout). size_at z.blocks b) c.in_ok-block.ensures.taken ∙ size-here l x.lists.heads x.active x.first c.self.invariant.set b
    (c.args.room + 8) f.1 f.0 n in
    omega (arith, size)

pub carve-requires-clause-clear : goal.carve-requires-clause-clear
carve-requires-clause-clear c = grind (arith, nat_tests, common_steps, every_weaker)

made : (l t m : Layout) (p : ChunkContents) (size : ℕ) → l.head ≡ 8 → t
    ≡ record { head = l.head; blocks = with_block l.blocks p.place.block size; contents = l.contents } → m ≡ with_contents t p
    → has l.contents p.place ≡ false
    → m ≡ record { head = 8; blocks = with_block l.blocks p.place.block size; contents = p ∷ l.contents }
made l t m p size head taken carved none = carved ∙ ap (λ (z : Layout). with_contents z p) taken
    ∙ (λ i.
    record { head = head i; blocks = with_block l.blocks p.place.block size; contents = p ∷ without-none l.contents p.place none i })

pub invariant_of-self-2 : goal.invariant_of-self-2
invariant_of-self-2 c =
    let x = c.self.inside in let l = x.lists.layout in let b = c.in_ok-block.block in let f = c.in_ok-block.ensures.was_free in let n =
    c.in_ok-block.ensures.name in let is = c.self.invariant.set in
    let p : ChunkContents = record { place = record { block = b; offset = 8 }; room = c.args.room; is_live = true; bytes = [] } in
    let same = made l c.take_block.new.self c.carve.new.self p (c.args.room + 8) is.lists.links.head c.in_ok-block.ensures.taken
    c.carve.ensures (own-fresh l x.lists.heads x.active x.first is b (c.args.room + 8) f.1 f.0 n c.args.room c.requires.large) in
    record {
      set = subst (λ (z : Layout). IsSet z x.lists.heads x.active x.first) (sym same) (set-dedicated l x.lists.heads x.active x.first is b
          (c.args.room + 8) f.1 f.0 n c.args.room c.requires.large);
      next = c.self.invariant.next;
    }

pub returns-clause-taken : goal.returns-clause-taken
returns-clause-taken c =
    let x = c.self.inside in let l = x.lists.layout in let b = c.in_ok-block.block in let f = c.in_ok-block.ensures.was_free in let n =
    c.in_ok-block.ensures.name in let is = c.self.invariant.set in
    let p : ChunkContents = record { place = record { block = b; offset = 8 }; room = c.args.room; is_live = true; bytes = [] } in
    let same = made l c.take_block.new.self c.carve.new.self p (c.args.room + 8) is.lists.links.head c.in_ok-block.ensures.taken
    c.carve.ensures (own-fresh l x.lists.heads x.active x.first is b (c.args.room + 8) f.1 f.0 n c.args.room c.requires.large) in
    ap (λ (z : Layout). let s : SetState = record {
      chunks = live z.contents;
      blocks = z.blocks;
      free = free_rooms z.contents;
      left =
          x.active.size - x.active.used;
      next = x.next;
      first = x.first;
    } in s) same
    ∙ ap (λ (s : SetState). dedicated s p) c.self.view_is

pub returns-clause-fresh : goal.returns-clause-fresh
returns-clause-fresh c =
    let x = c.self.inside in let l = x.lists.layout in let b = c.in_ok-block.block in let f = c.in_ok-block.ensures.was_free in let n =
    c.in_ok-block.ensures.name in let is = c.self.invariant.set in
    let place : Place = record { block = b; offset = 8 } in
    ap (λ (s : SetState). has s.chunks place) (sym c.self.view_is)
    ∙ live-none l.contents place (own-fresh l x.lists.heads x.active x.first is b (c.args.room + 8) f.1 f.0 n c.args.room
    c.requires.large)

pub returns-clause-held : goal.returns-clause-held
returns-clause-held c = grind (arith, nat_tests, common_steps, total-taken c.args.self.now)

pub returns-clause-vacant : goal.returns-clause-vacant
returns-clause-vacant c = ap (λ (s : SetState). get_or s.blocks c.in_ok-block.block None) (sym c.self.view_is)
    ∙ c.in_ok-block.ensures.was_free.1
