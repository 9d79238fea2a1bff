use Rattle.plain_batches.proofs.PackedLaws.{refused_for_memory, same_rows}
use Rattle.plain_batches.proofs.laws.packed_batches_are_read.Goals as goal

pub returns-clause-refused : goal.returns-clause-refused
returns-clause-refused c = refused_for_memory

pub returns-clause-rows : goal.returns-clause-rows
returns-clause-rows c = same_rows
