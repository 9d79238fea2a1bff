-- Worked examples.
use Rattle.std.specs.Prelude.{ℕ, ◌+◌, ◌*◌, ◌/◌, ◌%◌, List, [], ◌∷◌, ◌++◌, map, replicate}
use Rattle.std.specs.List.{range_with_len}
use Rattle.key_hashes.specs.Hashes.{fnv_1a}
use Rattle.aggregation_cost.specs.Space.{Key, Setting}
use Rattle.aggregation_cost.specs.Passes.{Record, of_row}

-- the decimal digit of n at the power, as text
abbrev pub digit : ℕ → ℕ → ℕ
digit n power = 48 + n / power % 10

-- the packed texts `k0000`, `k0001` and so on
abbrev pub numbered : ℕ → Key
numbered n = 1 ∷ 107 ∷ digit n 1000 ∷ digit n 100 ∷ digit n 10 ∷ digit n 1 ∷ 0 ∷ []

-- rows of the first of these texts, as many as the number says, each once, with the packed number 0 beside it
abbrev pub numbered_rows : ℕ → List Record
numbered_rows n = map (λ i. of_row (numbered i) (numbered i ++ (1 ∷ 128 ∷ 0 ∷ 0 ∷ 0 ∷ 0 ∷ 0 ∷ 0 ∷ 0 ∷ []))) (range_with_len 0 n)

-- records of the first `few` of these keys in turn, of 25, 3,025 and 6,025 bytes on a tape in turn
abbrev pub repeated_rows : ℕ → ℕ → List Record
repeated_rows keys n = map (λ i. record { key = numbered (i % keys); on_tape = 25 + 3000 * (i % 3) }) (range_with_len 0 n)

-- states that fill a block each
abbrev pub wide_states : ℕ → Setting
wide_states limit = record { limit = limit; width = 8184; hash = λ key. 0 }

abbrev pub hashed_wide_states : ℕ → Setting
hashed_wide_states limit = record { limit = limit; width = 8184; hash = fnv_1a }

abbrev pub hashed : ℕ → Setting
hashed limit = record { limit = limit; width = 32; hash = fnv_1a }

-- keys of these lengths
abbrev pub of_lengths : List ℕ → List Key
of_lengths lengths = map (λ n. replicate n 1) lengths
