-- A replica that holds nothing.
use Rattle.std.specs.Prelude.{◌≡◌, refl, [], Option, None, Some, is_some}
use Rattle.std.proofs.Common.{ap, arith, sym}
use Rattle.std.proofs.lemmas.Bool.{true≢false}
use Rattle.grouping_model.specs.World.{World, nothing}
use Rattle.query_checks.specs.Checks.{Checked}
use Rattle.replica_merge.specs.Replicas.{Fits, told}

-- it fits each world
pub empty_fits : (query : Checked) (world : World) → Fits world (record { query = query; parts = [] })
empty_fits query world origin =
    record {
      there = λ n low high. absurd (omega (arith, low, high));
      run = tt;
      early = λ n rows found. absurd (none_is found);
    }
  where
    none_is : {X : Type 0} {x : X} → ◌≡◌ {A = Option X} None (Some x) → ⊥
    none_is e = true≢false (sym (ap is_some e))

-- it knows no batch
pub empty_knows : told [] ≡ nothing
empty_knows = refl
