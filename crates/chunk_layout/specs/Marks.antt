-- Marks on the numbers below a bound. All of this is our own.
use Rattle.std.specs.Prelude.{◌≡◌, ℕ, ◌<◌, ◌^◌, List, length, get_or}

-- each number stands once in a list of all, at the place that is kept for it
pub record IsArranged (order places : List ℕ) : Type 0 where
  pub long : length places ≡ length order
  pub few : length order < 2 ^ 32
  pub there : (i : ℕ) → i < length order → (get_or order i 0 < length order) × (get_or places (get_or order i 0) 0 ≡ i)
  pub back : (k : ℕ) → k < length order → (get_or places k 0 < length order) × (get_or order (get_or places k 0) 0 ≡ k)
