use Rattle.std.proofs.Common.{◌≡◌, ◌++◌, ℕ, true, List, flat_map, length, take, IsTrue}
use Rattle.std.specs.Option.{is_some}
use Rattle.origin_prefix.specs.Parts.{Batches, rows_at}
use Rattle.summary_codec.specs.Gathered.{AreSomeOf, Rise}
use Rattle.summary_codec.proofs.gathering.put_some.Given as goal

abbrev pub invariant-loop-number : goal.invariant-loop-number
invariant-loop-number l = record {
  first : l.first ≡ length (flat_map (λ (batch : ℕ × List (List ℕ)). batch.1) (take l.number-index l.batches));
  some : (old : Batches) → Rise (old ++ l.batches) → AreSomeOf (old ++ l.batches) l.fn.early.entries
      → AreSomeOf (old ++ l.batches) l.early.entries;
  had : (n : ℕ) → is_some (rows_at l.fn.early.entries n) ≡ true → is_some (rows_at l.early.entries n) ≡ true;
  puts : IsTrue l.each → IsTrue l.puts;
  each : IsTrue l.each → (n : ℕ) → is_some (rows_at (take l.number-index l.batches) n) ≡ true
      → is_some (rows_at l.early.entries n) ≡ true;
}
