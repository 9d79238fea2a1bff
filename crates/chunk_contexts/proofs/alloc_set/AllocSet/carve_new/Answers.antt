use Rattle.chunk_contexts.proofs.Laws.{common_steps, nat_tests}
use Rattle.std.proofs.Common.{◌≡◌, ◌∷◌, ℕ, [], Option, Some, None, true, refl, sym, ap, ◌∙◌, subst, arith}
use Rattle.chunk_contexts.proofs.Words.{Layout, with_block, Active, rooms_down, cut_chunks, AreLists, IsRest}
use Rattle.chunk_contexts.specs.Set.{or_first}
use Rattle.std.specs.Option.{option_or}
use Rattle.chunk_contexts.specs.SetFields.{IsSet}
use Rattle.chunk_contexts.proofs.ClassLaws.{in-some}
use Rattle.chunk_contexts.proofs.CutLaws.{cut-live, cut-free}
use Rattle.chunk_contexts.proofs.SetViews.{total-taken}
use Rattle.chunk_contexts.proofs.FreeLaws.{live-none}
use Rattle.chunk_contexts.proofs.SetLaws.{set-rest, rest-taken, set-grown, set-carved}
use Rattle.chunk_contexts.proofs.alloc_set.AllocSet.carve_new.Goals as goal

pub cut_up-requires-clause-rest : goal.cut_up-requires-clause-rest
cut_up-requires-clause-rest c =
    let x = c.self.inside in let l = x.lists.layout in let b = c.in_ok-block.block in let f = c.in_ok-block.ensures.was_free in let n =
    c.in_ok-block.ensures.name in
    subst (λ (z : Layout). IsRest z x.active) (sym c.in_ok-block.ensures.taken)
    (rest-taken l x.lists.heads x.active x.first c.self.invariant.set b c.block_size-size.result f.1 f.0 n)

pub carve-requires-clause-room : goal.carve-requires-clause-room
carve-requires-clause-room c = omega (arith, in-some c.args.room c.requires.known)

-- the layout after what was left of the block was cut up
cut-is : (l t m : Layout) (a : Active) (b size : ℕ) → t
    ≡ record { head = l.head; blocks = with_block l.blocks b size; contents = l.contents }
    → m ≡ record { head = 8; blocks = t.blocks; contents = cut_chunks rooms_down a.block a.used a.size t.contents }
    → m ≡ record { head = 8; blocks = with_block l.blocks b size; contents = cut_chunks rooms_down a.block a.used a.size l.contents }
cut-is l t m a b size taken cut = cut
    ∙ ap (λ (z : Layout). record { head = 8; blocks = z.blocks; contents = cut_chunks rooms_down a.block a.used a.size z.contents }) taken

pub carve-requires-clause-rest : goal.carve-requires-clause-rest
carve-requires-clause-rest c =
    let x = c.self.inside in let l = x.lists.layout in let b = c.in_ok-block.block in let f = c.in_ok-block.ensures.was_free in let n =
    c.in_ok-block.ensures.name in let is = c.self.invariant.set in
    let size = c.block_size-size.result in let k = c.cut_up.new.self in
    let cut = cut-is l c.take_block.new.self k.layout x.active b size c.in_ok-block.ensures.taken c.cut_up.ensures.cut in
    let new = set-grown l x.lists.heads x.active x.first is b size f.1 f.0 n c.block_size-size.ensures.small k.heads
    (subst (λ (z : Layout). AreLists z k.heads) cut c.cut_up.ensures.lists) in
    set-rest k.layout k.heads (record { block = b; used = 0; size = size }) (or_first x.first b)
    (subst (λ (z : Layout). IsSet z k.heads (record { block = b; used = 0; size = size }) (or_first x.first b)) (sym cut) new)

or-is : (first : Option ℕ) (block : ℕ) → option_or first (Some block) ≡ or_first first block
or-is None block = refl
or-is (Some first) block = refl

pub invariant_of-self-2 : goal.invariant_of-self-2
invariant_of-self-2 c =
    let x = c.self.inside in let l = x.lists.layout in let b = c.in_ok-block.block in let f = c.in_ok-block.ensures.was_free in let n =
    c.in_ok-block.ensures.name in let is = c.self.invariant.set in
    let size = c.block_size-size.result in let k = c.cut_up.new.self in
    let next : Active = record { block = b; used = 0; size = size } in
    let cut = cut-is l c.take_block.new.self k.layout x.active b size c.in_ok-block.ensures.taken c.cut_up.ensures.cut in
    let new = set-grown l x.lists.heads x.active x.first is b size f.1 f.0 n c.block_size-size.ensures.small k.heads
    (subst (λ (z : Layout). AreLists z k.heads) cut c.cut_up.ensures.lists) in
    let set' = set-carved k.layout k.heads next (or_first x.first b) (subst (λ (z : Layout). IsSet z k.heads next (or_first x.first b))
    (sym cut) new) c.args.room c.requires.known (omega (arith, c.block_size-size.ensures.room)) in
    let made : c.carve.new.layout
    ≡ record {
      head = 8;
      blocks = k.layout.blocks;
      contents =
          (record { place = record { block = b; offset = 8 }; room = c.args.room; is_live = true; bytes = [] }) ∷ k.layout.contents;
    } =
    c.carve.ensures.carved
    ∙ (λ i. record {
      head = 8;
      blocks = k.layout.blocks;
      contents =
          (record { place = c.carve.ensures.place i; room = c.args.room; is_live = true; bytes = [] }) ∷ k.layout.contents;
    }) in
    let first = c.or-self-inside.ensures ∙ or-is x.first b in
    let bounds = c.self.invariant.next in
    record {
      set = subst (λ (z : Layout × (Active × Option ℕ)). IsSet z.0 k.heads z.1.0 z.1.1)
          (λ i. (sym made i, (sym c.carve.ensures.used i, sym first i))) set';
      next = (omega (arith, c.min-self-inside.ensures, bounds.0, bounds.1), omega (arith, c.min-self-inside.ensures));
    }

pub returns-clause-carved : goal.returns-clause-carved
returns-clause-carved c = grind (arith, nat_tests, common_steps, cut-live rooms_down, cut-free rooms_down)

pub returns-clause-fresh : goal.returns-clause-fresh
returns-clause-fresh c = grind (
  arith,
  nat_tests,
  common_steps,
  cut-live rooms_down,
  live-none c.cut_up.new.self.layout.contents
      c.carve.result c.carve.ensures.fresh,
)

pub returns-clause-held : goal.returns-clause-held
returns-clause-held c = grind (arith, nat_tests, common_steps, total-taken c.args.self.now)

pub returns-clause-vacant : goal.returns-clause-vacant
returns-clause-vacant c = grind (arith, nat_tests, common_steps)
