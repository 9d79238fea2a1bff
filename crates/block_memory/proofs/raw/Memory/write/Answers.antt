use Rattle.std.proofs.Common.{◌∙◌, ap, Some, ◌+◌, get_or, set}
use Rattle.block_memory.specs.Cells.{Cells}
use Rattle.block_memory.specs.Lemmas.CellLemmas.{write_more}
use Rattle.block_memory.proofs.raw.Memory.write.Goals as goal

pub loop-i-preserved : goal.loop-i-preserved
loop-i-preserved c =
    let i = c.loop-i.i in
    let bytes = c.args.bytes.now in
    record {
      here = c.put.ensures.here ∙ c.loop-i.invariant.here;
      cells = c.put.ensures.cells ∙ ap (λ (t : Cells). set t (c.args.at + i) (Some (get_or bytes i 0))) c.loop-i.invariant.cells
          ∙ write_more c.args.self.now.cells c.args.at bytes i c.loop-i-test.true c.requires.room;
    }
