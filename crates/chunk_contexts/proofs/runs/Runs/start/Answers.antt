use Rattle.std.proofs.Common.{ap, arith}
use Rattle.chunk_contexts.proofs.Words.{Layout}
use Rattle.chunk_contexts.proofs.RunLaws.{taken-total, started-run}
use Rattle.chunk_contexts.proofs.runs.Runs.start.Goals as goal

pub returns-clause-run : goal.returns-clause-run
returns-clause-run c = started-run c.args.head c.args.self.now c.requires.run c.in_ok-block.block 8192 c.in_ok-block.ensures.was_free.1
    c.in_ok-block.ensures.was_free.0 c.in_ok-block.ensures.name c.take_block.new.self c.in_ok-block.ensures.taken (omega arith)

pub returns-clause-held : goal.returns-clause-held
returns-clause-held c = taken-total c.args.head c.args.self.now c.requires.run c.in_ok-block.block 8192 c.in_ok-block.ensures.was_free.1
    c.in_ok-block.ensures.was_free.0 c.in_ok-block.ensures.name c.take_block.new.self
    (ap (λ (z : Layout). z.blocks) c.in_ok-block.ensures.taken)
