use Rattle.std.proofs.Common.{◌∙◌, ap, Some, ◌+◌, set}
use Rattle.block_memory.specs.Cells.{Cells}
use Rattle.block_memory.specs.Lemmas.CellLemmas.{fill_more}
use Rattle.block_memory.proofs.raw.Memory.fill.Goals as goal

pub loop-i-preserved : goal.loop-i-preserved
loop-i-preserved c =
    let i = c.loop-i.i in
    record {
      here = c.put.ensures.here ∙ c.loop-i.invariant.here;
      cells = c.put.ensures.cells ∙ ap (λ (t : Cells). set t (c.args.at + i) (Some c.args.byte)) c.loop-i.invariant.cells
          ∙ fill_more c.args.self.now.cells c.args.at i c.args.n c.args.byte c.loop-i-test.true c.requires.room;
    }
