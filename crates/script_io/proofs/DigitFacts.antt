-- Up to nineteen digits stand for a number of 64 bits.
use Rattle.std.proofs.Common.{◌<◌, ◌≤◌, ◌+◌, ◌*◌, ◌^◌, ℕ, arith}
use Rattle.std.proofs.Math.Nat.{pow-le-pow_right}

pub nineteen_digits : (value index : ℕ) → value < 10 ^ index → index < 19 → value * 10 + 256 ≤ 2 ^ 64
nineteen_digits value index h few = omega (arith, pow-le-pow_right {n = 10} (omega arith) {i = index} {j = 18} (omega arith))

pub digits_within : (value length most : ℕ) → value < 10 ^ length → length ≤ most → value < 10 ^ most
digits_within value length most h few = omega (arith, pow-le-pow_right {n = 10} (omega arith) {i = length} {j = most} few)
