use Rattle.std.proofs.Common.{arith}
use Rattle.std.proofs.lemmas.Bool.Decides.{nat_tests}
use Rattle.chunk_layout.proofs.Fields.{fields-carved, layout-carved}
use Rattle.chunk_layout.proofs.layout.ChunkLayout.carve.Goals as goal

pub invariant_of-self : goal.invariant_of-self
invariant_of-self c = grind (
  arith,
  nat_tests,
  fields-carved c.self.inside c.self.invariant c.args.self.now c.self.view_is c.args.place
      c.args.room c.requires.room c.requires.inside c.requires.after c.requires.clear
      (record {
        head = c.self.inside.head;
        blocks = c.write_header.new.blocks;
        vacant = c.self.inside.vacant;
        held = c.self.inside.held;
        notes = c.add.new.self;
        alloc = c.self.inside.alloc;
      }),
)

pub returns : goal.returns
returns c = grind (
  arith,
  nat_tests,
  layout-carved c.self.inside c.self.invariant c.args.self.now c.self.view_is c.args.place c.args.room
      c.requires.room c.requires.inside c.requires.after c.requires.clear
      (record {
        head = c.self.inside.head;
        blocks = c.write_header.new.blocks;
        vacant = c.self.inside.vacant;
        held = c.self.inside.held;
        notes = c.add.new.self;
        alloc = c.self.inside.alloc;
      }),
)
