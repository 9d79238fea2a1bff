-- Marks after a number is added, and after two numbers are exchanged.
use Rattle.std.proofs.Common.{◌≡◌, ◌≢◌, ℕ, ◌+◌, ◌<◌, ◌≤◌, Bool, true, false, List, map, length, get_or, cond, arith}
use Rattle.std.specs.Prelude.{◌==◌, nat_lt}
use Rattle.chunk_layout.proofs.Laws.{cases_lt, le-ltb, get_or-map, get_or_past, length-map, nat_tests, common_steps}
use Rattle.chunk_layout.specs.Marks.{IsArranged}

abbrev pub marked : ℕ → List ℕ → List Bool
marked count places = map (λ place. nat_lt place count) places

pub marked-in : (count : ℕ) (places : List ℕ) (k : ℕ) → k < length places → get_or (marked count places) k false
    ≡ nat_lt (get_or places k 0) count
marked-in count places k low = get_or-map (λ (place : ℕ). nat_lt place count) places k 0 false low

pub marked-out : (count : ℕ) (places : List ℕ) (k : ℕ) → length places ≤ k → get_or (marked count places) k false ≡ false
marked-out count places k past = get_or_past (marked count places) k false
    (omega (arith, past, length-map {A = ℕ} places (λ (place : ℕ). nat_lt place count)))

pub marked-none : (places : List ℕ) (k : ℕ) → get_or (marked 0 places) k false ≡ false
marked-none places k = grind (arith, nat_tests, cases_lt, marked-in, le-ltb, marked-out)

other : (q d : ℕ) → q ≢ d → nat_lt q d ≡ nat_lt q (d + 1)
other q d ne = grind (arith, nat_tests, common_steps)

-- the number n and the one at d are exchanged
module _ (order places after : List ℕ) (is : IsArranged order places) (n d : ℕ) (n-low : n < length order) (d-low : d < length order)
    (long : length after ≡ length places) (moved : (k : ℕ) → get_or after k 0
    ≡ cond (k == get_or order (get_or places n 0) 0) d (cond (k == get_or order d 0) (get_or places n 0) (get_or places k 0))) where
  abbrev p : ℕ
  p = get_or places n 0

  abbrev m : ℕ
  m = get_or order d 0

  pub mark-more : d ≤ p → (k : ℕ) → get_or (marked (d + 1) after) k false ≡ cond (k == n) true (get_or (marked d places) k false)
  mark-more behind k = grind (arith, nat_tests, common_steps)

  pub mark-less : p ≤ d → (k : ℕ) → get_or (marked d after) k false ≡ cond (k == n) false (get_or (marked (d + 1) places) k false)
  mark-less before k = grind (arith, nat_tests, common_steps)
