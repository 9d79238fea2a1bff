-- The digits of a hash.
use Rattle.std.specs.Prelude.{ℕ, ◌<◌, ◌≤◌, ◌^◌}
use Rattle.std.proofs.Common.{arith}
use Rattle.std.proofs.Math.Nat.{one-le-pow, pow-le-pow_right}

pub power_fits : (k : ℕ) → k ≤ 7 → (0 < 16 ^ k) × (16 ^ k < 4294967296)
power_fits k few = let most = pow-le-pow_right {n = 16} (omega arith) {i = k} {j = 7} few in
    (one-le-pow k 16 (omega arith), omega (arith, most))
