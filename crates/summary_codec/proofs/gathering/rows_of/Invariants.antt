use Rattle.std.proofs.Common.{◌≡◌, ℕ, List, flat_map, take}
use Rattle.summary_codec.proofs.gathering.rows_of.Given as goal

abbrev pub invariant-loop-more : goal.invariant-loop-more
invariant-loop-more l = l.rows ≡ flat_map (λ (batch : ℕ × List (List ℕ)). batch.1) (take l.more-index l.batches)
