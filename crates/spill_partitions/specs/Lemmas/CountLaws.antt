-- What a test of equality tells of two places.
use Rattle.std.specs.Prelude.{◌≡◌, ℕ, ◌<◌, ◌≤◌, ◌==◌, true, false}
use Rattle.std.proofs.Common.{arith}
use Rattle.std.proofs.lemmas.Bool.Decides.{nat_tests}

-- places of partitions, as tests tell them
pub is_not : (n i : ℕ) → n < i → (n == i) ≡ false
is_not n i less = grind (arith, nat_tests)

pub is_it : (n i : ℕ) → (n == i) ≡ true → n ≡ i
is_it n i e = grind (arith, nat_tests)

pub is_past : (n i : ℕ) → (n == i) ≡ false → i ≤ n → i < n
is_past n i e low = grind (arith, nat_tests)
