use Rattle.chunk_layout.proofs.Laws.{nat_tests, get_or_default, holds_unique}
use Rattle.std.proofs.Common.{◌≡◌, Some, None, take, refl, ap, sym, ◌∙◌, subst, arith}
use Rattle.std.specs.Option.{option_copied_mut}
use Rattle.std.specs.Vec.{with_item}
use Rattle.chunk_layout.proofs.Words.{Cells, Holds, with_bytes, block_at, cells_of, Inside}
use Rattle.chunk_layout.proofs.Fields.{found-low, found-some, found-written, found-bytes, fields-lent, layout-lent}
use Rattle.chunk_layout.proofs.layout.ChunkLayout.get_mut.Goals as goal

pub index_mut-requires : goal.index_mut-requires
index_mut-requires c = grind (arith, nat_tests, found-low)

pub unwrap-block-requires : goal.unwrap-block-requires
unwrap-block-requires c = grind (arith, nat_tests, found-low, get_or_default, found-some)

pub bytes_mut-requires : goal.bytes_mut-requires
bytes_mut-requires c = grind (
  arith,
  nat_tests,
  found-low c.self.inside c.self.invariant c.args.self.now c.self.view_is c.args.place
      c.requires.there,
  get_or_default c.self.inside.blocks.items c.args.place.block c.index_mut.result.now None,
  found-written c.self.inside
      c.self.invariant c.args.self.now c.self.view_is c.args.place c.requires.there,
)

pub invariant_of-self-lent : goal.invariant_of-self-lent
invariant_of-self-lent c =
    let x = c.self.inside in let b = c.args.place.block in
    let low = found-low x c.self.invariant c.args.self.now c.self.view_is c.args.place c.requires.there in
    let there : c.unwrap-block.result.now ≡ block_at x.blocks.items b =
    ap cells_of (ap option_copied_mut (sym c.unwrap-block.ensures) ∙ c.as_mut.ensures.value ∙ c.index_mut.ensures.value
    ∙ get_or_default x.blocks.items b c.index_mut.result.now None low) in
    λ w.
    let y : Inside = record {
      head = x.head;
      blocks = with_item x.blocks b
          (Some (with_bytes c.unwrap-block.result.now c.args.place.offset (take c.args.len w)));
      vacant = x.vacant;
      held = x.held;
      notes =
          x.notes;
      alloc = x.alloc;
    } in
    fields-lent x c.self.invariant c.args.self.now c.self.view_is c.args.place c.requires.there c.args.len c.requires.len w y refl refl refl
    (ap (λ (cells : Cells). (with_item x.blocks b (Some (with_bytes cells c.args.place.offset (take c.args.len w)))).items) there) refl

pub returns : goal.returns
returns c =
    let x = c.self.inside in let b = c.args.place.block in
    let low = found-low x c.self.invariant c.args.self.now c.self.view_is c.args.place c.requires.there in
    let there : c.unwrap-block.result.now ≡ block_at x.blocks.items b =
    ap cells_of (ap option_copied_mut (sym c.unwrap-block.ensures) ∙ c.as_mut.ensures.value ∙ c.index_mut.ensures.value
    ∙ get_or_default x.blocks.items b c.index_mut.result.now None low) in (
      (
        refl,
        λ w.
            let y : Inside = record {
              head = x.head;
              blocks = with_item x.blocks b
                  (Some (with_bytes c.unwrap-block.result.now c.args.place.offset (take c.args.len w)));
              vacant = x.vacant;
              held = x.held;
              notes = x.notes;
              alloc = x.alloc;
            } in
            layout-lent x c.self.invariant c.args.self.now c.self.view_is c.args.place c.requires.there c.args.len c.requires.len w y refl
            refl refl
            (ap (λ (cells : Cells). (with_item x.blocks b (Some (with_bytes cells c.args.place.offset (take c.args.len w)))).items) there)
            refl,
      ),
      record {
        writes_back = tt;
        value = holds_unique (block_at x.blocks.items b) c.args.place.offset c.bytes_mut.result.now _ (c.bytes_mut.ensures.len
            ∙ sym c.requires.len)
            (subst (λ (cells : Cells). Holds cells c.args.place.offset c.bytes_mut.result.now) there c.bytes_mut.ensures.value)
            (found-bytes x c.self.invariant c.args.self.now c.self.view_is c.args.place c.requires.there);
        len = c.bytes_mut.ensures.len;
      },
    )
