use Rattle.std.specs.Prelude.{ℕ, ◌≤◌, IsTrue}
use Rattle.replica_merge.specs.Lacking.{is_listed}
use Rattle.replica_merge.proofs.listing.Listed.tells_upto.Given as goal

abbrev pub invariant-loop-below : goal.invariant-loop-below
invariant-loop-below l = (n : ℕ) → 1 ≤ n → n ≤ l.below → IsTrue (is_listed l.self (l.origin, n))
