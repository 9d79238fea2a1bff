use Rattle.std.proofs.Common.{ℕ, ◌<◌}
use Rattle.chunk_contexts.proofs.Words.{room_of}
use Rattle.chunk_contexts.proofs.rooms.class_of.Given as goal

abbrev pub invariant-loop-class : goal.invariant-loop-class
invariant-loop-class l = (k : ℕ) → k < l.class → room_of k < l.n
