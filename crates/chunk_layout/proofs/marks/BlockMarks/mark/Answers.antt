use Rattle.chunk_layout.proofs.Laws.{nat_tests, get_or_read, length-map}
use Rattle.std.proofs.Common.{ℕ, arith}
use Rattle.std.specs.Prelude.{nat_lt}
use Rattle.chunk_layout.proofs.MarkLaws.{mark-more}
use Rattle.chunk_layout.proofs.marks.BlockMarks.mark.Goals as goal

pub returns-clause-marked : goal.returns-clause-marked
returns-clause-marked c = grind (
  arith,
  nat_tests,
  length-map {A = ℕ} c.self.inside.places.items (λ (q : ℕ). nat_lt q c.self.inside.count),
  get_or_read c.self.inside.places.items c.args.number c.index.result.now,
  mark-more c.self.inside.order.items c.self.inside.places.items
      c.exchange.new.places.items c.self.invariant.arranged c.args.number c.self.inside.count,
)
