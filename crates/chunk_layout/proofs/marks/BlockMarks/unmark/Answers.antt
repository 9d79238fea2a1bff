use Rattle.chunk_layout.proofs.Laws.{nat_tests, common_steps, get_or_read}
use Rattle.std.proofs.Common.{◌-◌, arith}
use Rattle.chunk_layout.proofs.MarkLaws.{marked, mark-less}
use Rattle.chunk_layout.proofs.marks.BlockMarks.unmark.Goals as goal

pub returns-clause-marked : goal.returns-clause-marked
returns-clause-marked c = grind (
  arith,
  nat_tests,
  common_steps,
  get_or_read c.self.inside.places.items c.args.number c.index.result.now,
  mark-less c.self.inside.order.items c.self.inside.places.items c.exchange.new.places.items c.self.invariant.arranged c.args.number
      (c.self.inside.count - 1),
  marked,
)
