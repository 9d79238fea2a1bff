use Rattle.chunk_layout.proofs.Laws.{nat_tests, length-map}
use Rattle.std.proofs.Common.{◌<◌, ◌-◌, length, sym, subst, arith}
use Rattle.chunk_layout.proofs.Words.{Cells, option_map, Layout, Inside}
use Rattle.chunk_layout.proofs.Fields.{held-enough, fields-dropped, layout-dropped}
use Rattle.chunk_layout.proofs.layout.ChunkLayout.give_back.Goals as goal

pub overflow_sub-self : goal.overflow_sub-self
overflow_sub-self c = grind (arith, nat_tests, length-map, held-enough)

pub invariant_of-self : goal.invariant_of-self
invariant_of-self c =
    let x = c.self.inside in let d = c.drop_block-size in
    let low : c.args.block < length x.blocks.items = omega (
      arith,
      length-map x.blocks.items (option_map {T = Cells} length),
      subst (λ (l : Layout). c.args.block < length l.blocks) (sym c.self.view_is) c.requires,
    ) in
    let y : Inside = record {
      head = x.head;
      blocks = d.new.blocks;
      vacant = d.new.vacant;
      held = x.held - d.result;
      notes = c.add.new.self;
      alloc = x.alloc;
    } in
    grind (arith, nat_tests, fields-dropped x c.self.invariant c.args.self.now c.self.view_is c.args.block low y)

pub returns : goal.returns
returns c =
    let x = c.self.inside in let d = c.drop_block-size in
    let low : c.args.block < length x.blocks.items = omega (
      arith,
      length-map x.blocks.items (option_map {T = Cells} length),
      subst (λ (l : Layout). c.args.block < length l.blocks) (sym c.self.view_is) c.requires,
    ) in
    let y : Inside = record {
      head = x.head;
      blocks = d.new.blocks;
      vacant = d.new.vacant;
      held = x.held - d.result;
      notes = c.add.new.self;
      alloc = x.alloc;
    } in
    grind (arith, nat_tests, layout-dropped x c.self.invariant c.args.self.now c.self.view_is c.args.block low y)
