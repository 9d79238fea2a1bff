use Rattle.std.proofs.Common.{◌∙◌, take}
use Rattle.block_memory.specs.Lemmas.CellLemmas.{length-with_bytes}
use Rattle.block_memory.proofs.block.RawBlock.bytes_mut.Goals as goal

pub invariant_of-self-lent : goal.invariant_of-self-lent
invariant_of-self-lent c = λ w.
    let fields = c.self.invariant in
    record {
      here = fields.here;
      whole = length-with_bytes c.self.inside.memory.cells c.args.at (take c.args.n w) ∙ fields.whole;
      not_empty = fields.not_empty;
      small = fields.small;
    }
