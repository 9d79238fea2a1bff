use Rattle.std.proofs.Common.{arith}
use Rattle.chunk_layout.proofs.Laws.{nat_tests, holds_unique}
use Rattle.chunk_layout.proofs.Fields.{found-low, found-some, found-written, found-bytes}
use Rattle.chunk_layout.proofs.layout.ChunkLayout.get.Goals as goal

pub read_bytes-requires-clause-there : goal.read_bytes-requires-clause-there
read_bytes-requires-clause-there c = grind (arith, nat_tests, found-low)

pub read_bytes-requires-clause-some : goal.read_bytes-requires-clause-some
read_bytes-requires-clause-some c = grind (arith, nat_tests, found-some)

pub read_bytes-requires-clause-written : goal.read_bytes-requires-clause-written
read_bytes-requires-clause-written c = grind (
  arith,
  nat_tests,
  found-written c.self.inside c.self.invariant c.args.self.now c.self.view_is
      c.args.place c.requires.there,
)

pub returns-clause-value : goal.returns-clause-value
returns-clause-value c = grind (arith, nat_tests, holds_unique, found-bytes)
