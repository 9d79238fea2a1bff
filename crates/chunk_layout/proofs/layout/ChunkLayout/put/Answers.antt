use Rattle.std.proofs.lemmas.Bool.Decides.{nat_tests}
use Rattle.std.proofs.Common.{refl, arith}
use Rattle.chunk_layout.proofs.Fields.{found-low, found-some, found-inside, found-small, fields-put, layout-put}
use Rattle.chunk_layout.proofs.layout.ChunkLayout.put.Goals as goal

pub overflow_add-place : goal.overflow_add-place
overflow_add-place c = grind (
  arith,
  nat_tests,
  found-inside c.self.inside c.self.invariant c.args.self.now c.self.view_is c.args.place
      c.requires.there,
  found-small c.self.inside c.self.invariant c.args.self.now c.self.view_is c.args.place c.requires.there,
)

pub write_bytes-requires-clause-there : goal.write_bytes-requires-clause-there
write_bytes-requires-clause-there c = found-low c.self.inside c.self.invariant c.args.self.now c.self.view_is c.args.place c.requires.there

pub write_bytes-requires-clause-some : goal.write_bytes-requires-clause-some
write_bytes-requires-clause-some c = found-some c.self.inside c.self.invariant c.args.self.now c.self.view_is c.args.place c.requires.there

pub write_bytes-requires-clause-room : goal.write_bytes-requires-clause-room
write_bytes-requires-clause-room c = grind (arith, nat_tests, found-inside)

pub overflow_add-kept : goal.overflow_add-kept
overflow_add-kept c = grind (arith, nat_tests, found-inside, found-small)

pub invariant_of-self : goal.invariant_of-self
invariant_of-self c =
    fields-put c.self.inside c.self.invariant c.args.self.now c.self.view_is c.args.place c.requires.there c.args.kept c.args.bytes.now
    c.args.is_live c.requires.kept c.requires.room _ refl refl refl c.write_bytes.ensures c.add.ensures

pub returns : goal.returns
returns c = grind (
  arith,
  nat_tests,
  layout-put c.self.inside c.self.invariant c.args.self.now c.self.view_is c.args.place c.requires.there
      c.args.kept c.args.bytes.now c.args.is_live c.requires.kept c.requires.room
      (record {
        head = c.self.inside.head;
        blocks = c.write_bytes.new.blocks;
        vacant = c.self.inside.vacant;
        held = c.self.inside.held;
        notes = c.add.new.self;
        alloc = c.self.inside.alloc;
      }),
)
