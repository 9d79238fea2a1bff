use Rattle.std.proofs.Common.{◌≡◌, take}
use Rattle.block_memory.specs.Cells.{with_bytes}
use Rattle.block_memory.proofs.raw.Memory.write.Given as goal

abbrev pub invariant-loop-i : goal.invariant-loop-i
invariant-loop-i l = record {
  here : l.self.start ≡ l.start;
  cells : l.self.cells ≡ with_bytes l.initial.self.cells l.at (take l.i l.bytes);
}
