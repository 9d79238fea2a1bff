use Rattle.chunk_layout.proofs.MarkLaws.{marked-none}
use Rattle.chunk_layout.proofs.marks.BlockMarks.clear.Goals as goal

pub returns-clause-none : goal.returns-clause-none
returns-clause-none c = λ k. marked-none c.self.inside.places.items k
