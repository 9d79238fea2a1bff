-- The rows of a world's batches.
use Rattle.std.specs.Prelude.{◌≡◌, refl, ℕ, zero, suc, ◌+◌, List, [], length, Some, None, unwrap_or}
use Rattle.std.proofs.Common.{ap}
use Rattle.std.proofs.lemmas.List.Elements.{recursion_from_All}
use Rattle.std.specs.List.{AllByRecursion}
use Rattle.grouping_model.specs.Datum.{Kind, HasKinds}
use Rattle.grouping_model.specs.World.{World, IsWorld, count_up, batch_rows}

pub count_length : (first n : ℕ) → length (count_up first n) ≡ n
count_length first zero = refl
count_length first (suc n) = ap suc (count_length (first + 1) n)

-- they are rows of the world's columns
pub batch_kinds : (ks : List Kind) (world : World) → IsWorld ks world → (origin n : ℕ)
    → AllByRecursion (HasKinds ks) (batch_rows world origin n)
batch_kinds ks world is origin n =
    elim (world origin n) as (λ o. world origin n ≡ o → AllByRecursion (HasKinds ks) (unwrap_or o [])) [
      | None ↦ λ e. tt
      | Some rows ↦ λ e. recursion_from_All (HasKinds ks) rows (is origin n rows e).4
    ] refl
