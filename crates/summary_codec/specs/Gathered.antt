-- Batches that are put among others, in any order. All of this is our own.
use Rattle.std.specs.Prelude.{◌≡◌, ℕ, List, map, Some}
use Rattle.std.specs.List.Sorted.{IsStrictlySortedBy}
use Rattle.std.specs.Ordering.{nat_cmp}
use Rattle.origin_prefix.specs.Parts.{Batches, rows_at}

-- batches have rising numbers
abbrev pub Rise : Batches → Type 0
Rise batches = IsStrictlySortedBy nat_cmp (map (λ (batch : ℕ × List (List ℕ)). batch.0) batches)

-- rising batches are some of others
pub record AreSomeOf (all batches : Batches) : Type 0 where
  pub rise : Rise batches
  pub each : (number : ℕ) (rows : List (List ℕ)) → rows_at batches number ≡ Some rows → rows_at all number ≡ Some rows
