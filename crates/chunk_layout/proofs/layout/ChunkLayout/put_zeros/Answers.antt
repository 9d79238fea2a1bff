use Rattle.chunk_layout.proofs.Laws.{nat_tests, length-zeros}
use Rattle.std.proofs.Common.{◌≤◌, ◌+◌, ℕ, List, true, length, arith}
use Rattle.chunk_layout.proofs.Words.{zeros, contents_at, Inside}
use Rattle.chunk_layout.proofs.Fields.{found-low, found-some, found-inside, found-small, fields-put, layout-put}
use Rattle.chunk_layout.proofs.layout.ChunkLayout.put_zeros.Goals as goal

pub overflow_add-place : goal.overflow_add-place
overflow_add-place c = omega (
  arith,
  c.requires.room,
  found-inside c.self.inside c.self.invariant c.args.self.now c.self.view_is
      c.args.place c.requires.there,
  found-small c.self.inside c.self.invariant c.args.self.now c.self.view_is c.args.place c.requires.there,
)

pub write_zeros-requires-clause-there : goal.write_zeros-requires-clause-there
write_zeros-requires-clause-there c = found-low c.self.inside c.self.invariant c.args.self.now c.self.view_is c.args.place c.requires.there

pub write_zeros-requires-clause-some : goal.write_zeros-requires-clause-some
write_zeros-requires-clause-some c = found-some c.self.inside c.self.invariant c.args.self.now c.self.view_is c.args.place c.requires.there

pub write_zeros-requires-clause-room : goal.write_zeros-requires-clause-room
write_zeros-requires-clause-room c = omega (
  arith,
  c.requires.room,
  found-inside c.self.inside c.self.invariant c.args.self.now
      c.self.view_is c.args.place c.requires.there,
)

pub overflow_add-kept : goal.overflow_add-kept
overflow_add-kept c = omega (
  arith,
  c.requires.room,
  found-inside c.self.inside c.self.invariant c.args.self.now c.self.view_is c.args.place
      c.requires.there,
  found-small c.self.inside c.self.invariant c.args.self.now c.self.view_is c.args.place c.requires.there,
)

pub invariant_of-self : goal.invariant_of-self
invariant_of-self c =
    let x = c.self.inside in let z : List ℕ = zeros c.args.n in let y : Inside = record {
      head = x.head;
      blocks = c.write_zeros.new.blocks;
      vacant = x.vacant;
      held = x.held;
      notes = c.add.new.self;
      alloc = x.alloc;
    } in
    let fits : c.args.kept + length z ≤ (contents_at c.args.self.now.contents c.args.place).room = omega
    (arith, c.requires.room, length-zeros c.args.n) in
    grind (
      arith,
      nat_tests,
      fields-put c.self.inside c.self.invariant c.args.self.now c.self.view_is c.args.place c.requires.there
          c.args.kept z true c.requires.kept fits y,
      length-zeros c.args.n,
    )

pub returns : goal.returns
returns c =
    let x = c.self.inside in let z : List ℕ = zeros c.args.n in let y : Inside = record {
      head = x.head;
      blocks = c.write_zeros.new.blocks;
      vacant = x.vacant;
      held = x.held;
      notes = c.add.new.self;
      alloc = x.alloc;
    } in
    let fits : c.args.kept + length z ≤ (contents_at c.args.self.now.contents c.args.place).room = omega
    (arith, c.requires.room, length-zeros c.args.n) in
    grind (
      arith,
      nat_tests,
      layout-put c.self.inside c.self.invariant c.args.self.now c.self.view_is c.args.place c.requires.there
          c.args.kept z true c.requires.kept fits y,
      length-zeros c.args.n,
    )
