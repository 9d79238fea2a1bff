use Rattle.std.proofs.Common.{◌≡◌, ◌-◌, ◌≤◌, true, length, take}
use Rattle.chunk_layout.specs.Contents.{contents_at, put_at}
use Rattle.chunk_layout.proofs.layout.ChunkLayout.copy.Given as goal

abbrev pub invariant-loop-done : goal.invariant-loop-done
invariant-loop-done l = record {
  upto : l.done ≤ l.n;
  part : length l.part ≡ 256;
  copied : l.self ≡ put_at l.fn.self l.to 0 (take l.done (contents_at l.fn.self.contents l.from).bytes) true;
}

abbrev pub decreases-loop-done : goal.decreases-loop-done
decreases-loop-done l = l.n - l.done
