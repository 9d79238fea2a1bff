use Rattle.chunk_contexts.proofs.Laws.{common_steps, nat_tests}
use Rattle.std.proofs.Common.{◌≡◌, length, refl, sym, ap, ◌∙◌, subst, rules, arith}
use Rattle.chunk_contexts.proofs.Words.{Every, ChunkContents, place_of, rewritten, layout_with, Place, live}
use Rattle.chunk_contexts.specs.Slab.{SlabState, slab_wrote}
use Rattle.chunk_contexts.specs.SlabFields.{AreFields}
use Rattle.chunk_contexts.proofs.Content.{rewriting}
use Rattle.chunk_contexts.proofs.OverLaws.{live-over}
use Rattle.chunk_contexts.proofs.SlabMoves.{slab-lent}
use Rattle.chunk_contexts.proofs.SlabViews.{view-here, asked-there, asked-len, asked-bytes, sizes-rewritten}
use Rattle.chunk_contexts.proofs.slab.SlabChunkContext.get_mut.Goals as goal

pub get_mut-requires : goal.get_mut-requires
get_mut-requires c = grind (arith, nat_tests, common_steps, asked-there, asked-len)

pub invariant_of-self-lent : goal.invariant_of-self-lent
invariant_of-self-lent c = λ w.
    let t = c.self.inside.inner in let place = place_of c.args.name in
    subst (λ (p : Place). AreFields
    (record { inner = record { layout = layout_with t.layout p w; blocks = t.blocks; spare = t.spare; size = t.size; per = t.per } }))
    (sym c.place.ensures) (record {
      chunks = slab-lent t.size t.per t.layout t.blocks.items t.spare c.self.invariant.chunks place
          (view-here c.self.inside c.self.invariant c.args.self.now c.self.view_is c.args.name c.requires) w;
      sizes = subst (Every (λ (p : ChunkContents). length p.bytes ≡ t.size))
          (sym (live-over place w t.layout.contents c.self.invariant.chunks.layout.links.places))
          (sizes-rewritten t.size (live t.layout.contents) place w c.self.invariant.sizes);
    })

pub returns : goal.returns
returns c =
    let t = c.self.inside.inner in let l = t.layout in let places = c.self.invariant.chunks.layout.links.places in let place = place_of
    c.args.name in
    let bytes = c.get_mut.ensures.value ∙ asked-bytes c.self.inside c.self.invariant c.args.self.now c.self.view_is c.args.name c.requires _
    c.place.ensures in (
      (
        refl,
        λ w.
            let chunks = ap (λ (p : Place). live (rewritten l.contents p w)) c.place.ensures ∙ live-over place w l.contents places in
            (λ i. record { size = t.size; chunks = chunks i; blocks = l.blocks })
            ∙ ap (λ (s : SlabState). slab_wrote s place w) c.self.view_is,
      ),
      search (rules, rewriting),
    )
