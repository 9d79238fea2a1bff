use Rattle.chunk_contexts.proofs.Laws.{common_steps, nat_tests}
use Rattle.std.proofs.Common.{◌≡◌, ◌≢◌, ◌+◌, ◌*◌, ◌<◌, ◌≤◌, ℕ, None, [], ◌∷◌, true, false, length, sym, ap, ◌∙◌, subst, arith}
use Rattle.chunk_contexts.proofs.Words.{IsTrue, is_some, Every, Layout, has, without, with_contents, size_at, IsClear, Place, live, rounded}
use Rattle.chunk_contexts.proofs.Words.{by_block, first_free, MOST}
use Rattle.chunk_contexts.specs.Generation.{in_block}
use Rattle.chunk_contexts.specs.Slab.{slab_block, per_block, IsSlabLayout, IsEntry}
use Rattle.chunk_contexts.specs.declared.slab_chunks.SlabBlock.{SlabBlock}
use Rattle.chunk_contexts.proofs.FreeLaws.{length-link}
use Rattle.chunk_contexts.proofs.SlabLaws.{was, reused-block, reused-layout, reused-live, reused-fresh, reused-entry, reused-other}
use Rattle.chunk_contexts.proofs.SlabLaws.{cut-fits, cut-inside, cut-clear, cut-layout, cut-live, cut-fresh, cut-entry, cut-other}
use Rattle.chunk_contexts.proofs.SlabLaws.{per-small}
use Rattle.chunk_contexts.proofs.LinkLaws as Link
use Rattle.chunk_contexts.proofs.slab_chunks.take_chunk.Goals as goal

pub take_first-requires : goal.take_first-requires
take_first-requires c =
    let l = c.args.layout.now in let r = c.requires in let k = c.args.block in
    λ place is.
    let w = was c.args.size l r.layout k place (sym r.entry.free ∙ is) in
    (w.there, ap length w.bytes ∙ length-link _)

pub overflow_add-entry : goal.overflow_add-entry
overflow_add-entry c = omega (arith, c.requires.spare, per-small (rounded c.args.size) (omega (arith, c.requires.small)))

pub returns-in-Some-clause-layout : goal.returns-in-Some-clause-layout
returns-in-Some-clause-layout c = grind (arith, nat_tests, common_steps, reused-layout c.args.size)

pub returns-in-Some-clause-entry : goal.returns-in-Some-clause-entry
returns-in-Some-clause-entry c =
    let l = c.args.layout.now in let r = c.requires in let k = c.args.block in let place = c.in-Some.place in let e = c.in-Some.ensures in
    let first = sym r.entry.free ∙ e.some.0 in
    let next = first_free by_block k (without l.contents place) in
    subst (λ (z : Layout). IsEntry z.contents k
    (record { free = c.take_first.new.first; cut = c.args.entry.now.cut; live = c.args.entry.now.live + 1 })) (sym e.some.1)
    (reused-entry c.args.size l r.layout k place first c.args.entry.now r.entry c.take_first.new.first
    (e.next next (Link.link-next by_block l r.layout.links k place first) (was c.args.size l r.layout k place first).bytes))

pub returns-in-Some-clause-others : goal.returns-in-Some-clause-others
returns-in-Some-clause-others c =
    let l = c.args.layout.now in let r = c.requires in let place = c.in-Some.place in let e = c.in-Some.ensures in
    λ j ne b entry. subst (λ (z : Layout). IsEntry z.contents j b) (sym e.some.1) (reused-other c.args.size l r.layout c.args.block place
    (sym r.entry.free ∙ e.some.0) j ne b entry)

pub returns-in-Some-clause-taken : goal.returns-in-Some-clause-taken
returns-in-Some-clause-taken c = grind (arith, nat_tests, common_steps, reused-live c.args.size)

pub returns-in-Some-clause-fresh : goal.returns-in-Some-clause-fresh
returns-in-Some-clause-fresh c = grind (arith, nat_tests, common_steps, reused-fresh c.args.size)

-- the next chunk is cut
module _ (size : ℕ) (l t : Layout) (is : IsSlabLayout size l) (k : ℕ) (e : SlabBlock) (entry : IsEntry l.contents k e)
    (name : k < 4294967296)
    (some : IsTrue (is_some (Rattle.std.specs.Prelude.get_or l.blocks k None))) (small : size ≤ MOST)
    (spare : e.live < per_block (rounded size)) (free : e.free ≡ None) (same : t ≡ l) (room : ℕ) (room-is : room ≡ rounded size) where
  none : first_free by_block k l.contents ≡ None
  none = sym entry.free ∙ free

  few : in_block (live l.contents) k < per_block (rounded size)
  few = subst (λ (n : ℕ). n < per_block (rounded size)) entry.live spare

  abbrev cut_place : Place
  cut_place = record { block = k; offset = e.cut * (8 + room) + 8 }

  cut_place-is : cut_place ≡ record { block = k; offset = in_block l.contents k * (8 + rounded size) + 8 }
  cut_place-is = λ i. record { block = k; offset = entry.cut i * (8 + room-is i) + 8 }

  fits : e.cut * (8 + room) + (8 + room) ≤ slab_block (rounded size)
  fits = subst (λ (x : ℕ × ℕ). x.0 * (8 + x.1) + (8 + x.1) ≤ slab_block (rounded size)) (λ i. (sym entry.cut i, sym room-is i))
      (cut-fits size l is k name some small none few)

  inside : cut_place.offset + room ≤ size_at t.blocks k
  inside = subst (λ (x : Layout × Place × ℕ). x.1.offset + x.2 ≤ size_at x.0.blocks k) (λ i.
      (sym same i, sym cut_place-is i, sym room-is i))
      (cut-inside size l is k name some small none few)

  clear : Every (IsClear t.head cut_place room) t.contents
  clear = subst (λ (x : Layout × Place × ℕ). Every (IsClear x.0.head x.1 x.2) x.0.contents) (λ i.
      (sym same i, sym cut_place-is i, sym room-is i))
      (cut-clear size l is k name some small none few)

  module _ (m : Layout) (made : m ≡ with_contents t (record { place = cut_place; room = room; is_live = true; bytes = [] })) where
    made-is : m ≡ with_contents l (record {
      place = record { block = k; offset = in_block l.contents k * (8 + rounded size) + 8 };
      room = rounded
          size;
      is_live = true;
      bytes = [];
    })
    made-is = made ∙ (λ i. with_contents (same i) (record { place = cut_place-is i; room = room-is i; is_live = true; bytes = [] }))

    layout : IsSlabLayout size m
    layout = subst (IsSlabLayout size) (sym made-is) (cut-layout size l is k name some small none few)

    here : IsEntry m.contents k (record { free = e.free; cut = e.cut + 1; live = e.live + 1 })
    here = subst (λ (z : Layout). IsEntry z.contents k (record { free = e.free; cut = e.cut + 1; live = e.live + 1 })) (sym made-is)
        (cut-entry size l is k name some small none few e entry)

    others : (j : ℕ) → j ≢ k → (b : SlabBlock) → IsEntry l.contents j b → IsEntry m.contents j b
    others j ne b was' = subst (λ (z : Layout). IsEntry z.contents j b) (sym made-is) (cut-other size l is k name some small none few j ne b
        was')

    taken : live m.contents ≡ (record { place = cut_place; room = rounded size; is_live = true; bytes = [] }) ∷ live l.contents
    taken = ap (λ (z : Layout). live z.contents) made-is ∙ cut-live size l is k name some small none few
        ∙ (λ i. (record { place = sym cut_place-is i; room = rounded size; is_live = true; bytes = [] }) ∷ live l.contents)

  unused : has (live l.contents) cut_place ≡ false
  unused = ap (has (live l.contents)) cut_place-is ∙ cut-fresh size l is k name some small none few

pub overflow_add-entry-3 : goal.overflow_add-entry-3
overflow_add-entry-3 c = omega (arith, c.requires.spare, per-small (rounded c.args.size) (omega (arith, c.requires.small)))

pub overflow_mul-place : goal.overflow_mul-place
overflow_mul-place c = omega (
  arith,
  fits c.args.size c.args.layout.now c.take_first.new.layout c.requires.layout c.args.block
      c.args.entry.now c.requires.entry (omega arith) c.requires.there c.requires.small c.requires.spare c.in_default.ensures.none.0
      c.in_default.ensures.none.2 c.rounded-room.result c.rounded-room.ensures.value,
  c.rounded-room.ensures.value,
  c.requires.small,
)

pub overflow_add-place-2 : goal.overflow_add-place-2
overflow_add-place-2 c = omega (
  arith,
  fits c.args.size c.args.layout.now c.take_first.new.layout c.requires.layout c.args.block
      c.args.entry.now c.requires.entry (omega arith) c.requires.there c.requires.small c.requires.spare c.in_default.ensures.none.0
      c.in_default.ensures.none.2 c.rounded-room.result c.rounded-room.ensures.value,
  c.rounded-room.ensures.value,
  c.requires.small,
)

pub overflow_cast-place : goal.overflow_cast-place
overflow_cast-place c = omega (
  arith,
  fits c.args.size c.args.layout.now c.take_first.new.layout c.requires.layout c.args.block
      c.args.entry.now c.requires.entry (omega arith) c.requires.there c.requires.small c.requires.spare c.in_default.ensures.none.0
      c.in_default.ensures.none.2 c.rounded-room.result c.rounded-room.ensures.value,
  c.rounded-room.ensures.value,
  c.requires.small,
)

pub carve-requires-clause-inside : goal.carve-requires-clause-inside
carve-requires-clause-inside c = inside c.args.size c.args.layout.now c.take_first.new.layout c.requires.layout c.args.block
    c.args.entry.now c.requires.entry (omega arith) c.requires.there c.requires.small c.requires.spare c.in_default.ensures.none.0
    c.in_default.ensures.none.2 c.rounded-room.result c.rounded-room.ensures.value

pub carve-requires-clause-clear : goal.carve-requires-clause-clear
carve-requires-clause-clear c = clear c.args.size c.args.layout.now c.take_first.new.layout c.requires.layout c.args.block c.args.entry.now
    c.requires.entry (omega arith) c.requires.there c.requires.small c.requires.spare c.in_default.ensures.none.0
    c.in_default.ensures.none.2 c.rounded-room.result c.rounded-room.ensures.value

pub returns-clause-layout : goal.returns-clause-layout
returns-clause-layout c = layout c.args.size c.args.layout.now c.take_first.new.layout c.requires.layout c.args.block c.args.entry.now
    c.requires.entry (omega arith) c.requires.there c.requires.small c.requires.spare c.in_default.ensures.none.0
    c.in_default.ensures.none.2 c.rounded-room.result c.rounded-room.ensures.value c.carve.new.self c.carve.ensures

pub returns-clause-entry : goal.returns-clause-entry
returns-clause-entry c = here c.args.size c.args.layout.now c.take_first.new.layout c.requires.layout c.args.block c.args.entry.now
    c.requires.entry (omega arith) c.requires.there c.requires.small c.requires.spare c.in_default.ensures.none.0
    c.in_default.ensures.none.2 c.rounded-room.result c.rounded-room.ensures.value c.carve.new.self c.carve.ensures

pub returns-clause-others : goal.returns-clause-others
returns-clause-others c = others c.args.size c.args.layout.now c.take_first.new.layout c.requires.layout c.args.block c.args.entry.now
    c.requires.entry (omega arith) c.requires.there c.requires.small c.requires.spare c.in_default.ensures.none.0
    c.in_default.ensures.none.2 c.rounded-room.result c.rounded-room.ensures.value c.carve.new.self c.carve.ensures

pub returns-clause-taken : goal.returns-clause-taken
returns-clause-taken c = taken c.args.size c.args.layout.now c.take_first.new.layout c.requires.layout c.args.block c.args.entry.now
    c.requires.entry (omega arith) c.requires.there c.requires.small c.requires.spare c.in_default.ensures.none.0
    c.in_default.ensures.none.2 c.rounded-room.result c.rounded-room.ensures.value c.carve.new.self c.carve.ensures

pub returns-clause-fresh : goal.returns-clause-fresh
returns-clause-fresh c = unused c.args.size c.args.layout.now c.take_first.new.layout c.requires.layout c.args.block c.args.entry.now
    c.requires.entry (omega arith) c.requires.there c.requires.small c.requires.spare c.in_default.ensures.none.0
    c.in_default.ensures.none.2 c.rounded-room.result c.rounded-room.ensures.value

pub returns-in-Some-clause-block : goal.returns-in-Some-clause-block
returns-in-Some-clause-block c = grind (arith, nat_tests, common_steps, reused-block c.args.size)
