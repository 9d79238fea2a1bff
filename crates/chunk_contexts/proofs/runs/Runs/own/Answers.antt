use Rattle.chunk_contexts.proofs.Laws.{common_steps, nat_tests}
use Rattle.std.proofs.Common.{◌+◌, ap, arith}
use Rattle.chunk_contexts.proofs.Words.{Layout}
use Rattle.chunk_contexts.specs.Run.{run_of}
use Rattle.chunk_contexts.proofs.RunLaws.{taken-size, taken-total, own-clear, own-fresh, own-made, own-run}
use Rattle.chunk_contexts.proofs.runs.Runs.own.Goals as goal

pub carve-requires-clause-inside : goal.carve-requires-clause-inside
carve-requires-clause-inside c = grind (
  arith,
  nat_tests,
  common_steps,
  taken-size c.args.head c.args.self.now c.requires.run
      c.in_ok-block.block (c.args.head + c.args.room) c.in_ok-block.ensures.was_free.1 c.in_ok-block.ensures.was_free.0
      c.in_ok-block.ensures.name,
)

pub carve-requires-clause-clear : goal.carve-requires-clause-clear
carve-requires-clause-clear c = grind (
  arith,
  nat_tests,
  common_steps,
  own-clear c.args.head c.args.self.now c.requires.run
      c.in_ok-block.block (c.args.head + c.args.room) c.in_ok-block.ensures.was_free.1 c.in_ok-block.ensures.was_free.0
      c.in_ok-block.ensures.name c.args.room c.requires.room,
)

pub returns-clause-run : goal.returns-clause-run
returns-clause-run c =
    own-run c.args.head c.args.self.now c.requires.run c.in_ok-block.block (c.args.head + c.args.room) c.in_ok-block.ensures.was_free.1
    c.in_ok-block.ensures.was_free.0 c.in_ok-block.ensures.name c.args.room c.requires.room c.carve.new.self
    (own-made c.args.head c.args.self.now c.requires.run c.in_ok-block.block (c.args.head + c.args.room)
    c.in_ok-block.ensures.was_free.1 c.in_ok-block.ensures.was_free.0 c.in_ok-block.ensures.name c.args.room c.requires.room
    c.take_block.new.self c.carve.new.self c.in_ok-block.ensures.taken c.carve.ensures)

pub returns-clause-made : goal.returns-clause-made
returns-clause-made c =
    ap (λ (z : Layout). run_of (record { layout = z; active = c.args.self.now.active }))
    (own-made c.args.head c.args.self.now c.requires.run c.in_ok-block.block (c.args.head + c.args.room)
    c.in_ok-block.ensures.was_free.1 c.in_ok-block.ensures.was_free.0 c.in_ok-block.ensures.name c.args.room c.requires.room
    c.take_block.new.self c.carve.new.self c.in_ok-block.ensures.taken c.carve.ensures)

pub returns-clause-fresh : goal.returns-clause-fresh
returns-clause-fresh c = own-fresh c.args.head c.args.self.now c.requires.run c.in_ok-block.block (c.args.head + c.args.room)
    c.in_ok-block.ensures.was_free.1 c.in_ok-block.ensures.was_free.0 c.in_ok-block.ensures.name c.args.room c.requires.room

pub returns-clause-held : goal.returns-clause-held
returns-clause-held c = taken-total c.args.head c.args.self.now c.requires.run c.in_ok-block.block (c.args.head + c.args.room)
    c.in_ok-block.ensures.was_free.1 c.in_ok-block.ensures.was_free.0 c.in_ok-block.ensures.name c.carve.new.self
    (ap (λ (z : Layout). z.blocks) (own-made c.args.head c.args.self.now c.requires.run c.in_ok-block.block (c.args.head + c.args.room)
    c.in_ok-block.ensures.was_free.1 c.in_ok-block.ensures.was_free.0 c.in_ok-block.ensures.name c.args.room c.requires.room
    c.take_block.new.self c.carve.new.self c.in_ok-block.ensures.taken c.carve.ensures))
