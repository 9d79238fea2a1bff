use Rattle.chunk_contexts.proofs.Laws.{common_steps, nat_tests}
use Rattle.std.proofs.Common.{◌≡◌, ◌+◌, ◌-◌, ◌∷◌, ◌≤◌, [], true, sym, ap, ◌∙◌, arith}
use Rattle.chunk_contexts.proofs.Words.{has}
use Rattle.chunk_contexts.specs.Set.{SetState}
use Rattle.chunk_contexts.proofs.ClassLaws.{in-some}
use Rattle.chunk_contexts.proofs.FreeLaws.{live-none}
use Rattle.chunk_contexts.proofs.SetLaws.{set-rest, set-carved}
use Rattle.chunk_contexts.proofs.alloc_set.AllocSet.carve.Goals as goal

pub carve-requires-clause-rest : goal.carve-requires-clause-rest
carve-requires-clause-rest c = let x = c.self.inside in set-rest x.lists.layout x.lists.heads x.active x.first c.self.invariant.set

pub carve-requires-clause-room : goal.carve-requires-clause-room
carve-requires-clause-room c = omega (arith, in-some c.args.room c.requires.known)

pub invariant_of-self : goal.invariant_of-self
invariant_of-self c =
    let x = c.self.inside in
    let l = x.lists.layout in
    let a = x.active in
    let left : a.size - a.used ≡ c.args.self.now.left = ap (λ (s : SetState). s.left) c.self.view_is in
    let fits : a.used + 8 + c.args.room ≤ a.size = omega (arith, left, c.requires.fits, in-some c.args.room c.requires.known) in
    let made : c.carve.new.layout
    ≡ record {
      head = 8;
      blocks = l.blocks;
      contents =
          (record { place = record { block = a.block; offset = a.used + 8 }; room = c.args.room; is_live = true; bytes = [] }) ∷ l.contents;
    } =
    c.carve.ensures.carved
    ∙ (λ i. record {
      head = 8;
      blocks = l.blocks;
      contents =
          (record { place = c.carve.ensures.place i; room = c.args.room; is_live = true; bytes = [] }) ∷ l.contents;
    }) in
    grind (arith, nat_tests, common_steps, set-carved l x.lists.heads a x.first c.self.invariant.set c.args.room c.requires.known fits)

pub returns-clause-fresh : goal.returns-clause-fresh
returns-clause-fresh c =
    ap (λ (s : SetState). has s.chunks c.carve.result) (sym c.self.view_is) ∙ live-none c.self.inside.lists.layout.contents c.carve.result
    c.carve.ensures.fresh
