use Rattle.chunk_layout.proofs.Numbers.{total-bound}
use Rattle.chunk_layout.proofs.Words.{sizes_of}
use Rattle.std.proofs.lemmas.Bool.Decides.{nat_tests}
use Rattle.std.proofs.Common.{◌+◌, arith}
use Rattle.chunk_layout.proofs.Fields.{all-taken, fields-taken, layout-taken}
use Rattle.chunk_layout.proofs.layout.ChunkLayout.take_block.Goals as goal

pub overflow_add-self : goal.overflow_add-self
overflow_add-self c = grind (arith, nat_tests, total-bound, sizes_of)

pub invariant_of-self-2 : goal.invariant_of-self-2
invariant_of-self-2 c = grind (
  arith,
  nat_tests,
  fields-taken c.self.inside c.self.invariant c.args.self.now c.self.view_is
      c.in_ok-number.number c.args.len c.in_ok-number.ensures.was_free.0 c.in_ok-number.ensures.was_free.1 c.requires.small
      c.in_ok-number.ensures.few c.in_ok-block.block c.in_ok-block.ensures.len
      (record {
        head = c.self.inside.head;
        blocks = c.put_block.new.blocks;
        vacant = c.put_block.new.vacant;
        held = c.self.inside.held
            + c.args.len;
        notes = c.self.inside.notes;
        alloc = c.self.inside.alloc;
      }),
)

pub returns-clause-taken : goal.returns-clause-taken
returns-clause-taken c = grind (
  arith,
  nat_tests,
  layout-taken c.self.inside c.self.invariant c.args.self.now c.self.view_is
      c.in_ok-number.number c.args.len c.in_ok-number.ensures.was_free.0 c.in_ok-number.ensures.was_free.1 c.requires.small
      c.in_ok-number.ensures.few c.in_ok-block.block c.in_ok-block.ensures.len
      (record {
        head = c.self.inside.head;
        blocks = c.put_block.new.blocks;
        vacant = c.put_block.new.vacant;
        held = c.self.inside.held
            + c.args.len;
        notes = c.self.inside.notes;
        alloc = c.self.inside.alloc;
      }),
)

pub returns-clause-needed : goal.returns-clause-needed
returns-clause-needed c = all-taken c.self.inside c.args.self.now c.self.view_is c.in_ok-number.number c.in_ok-number.ensures.needed
