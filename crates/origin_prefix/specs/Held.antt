-- What is held of several origins. All of this is our own.
use Rattle.std.specs.Prelude.{◌≢◌, ℕ, ◌<◌, ◌≤◌, ◌⊎◌, List, [], map}
use Rattle.std.specs.List.{AllByRecursion}
use Rattle.std.specs.List.Sorted.{IsStrictlySortedBy}
use Rattle.std.specs.Ordering.{nat_cmp}
use Rattle.grouping_model.specs.declared.limits.TheConstants.{LAST_ORIGIN}
use Rattle.query_checks.specs.Checks.{Checked}
use Rattle.origin_prefix.specs.Parts.{Part, IsPartOf}

-- the parts of some origins, by ascending origin
abbrev pub Parts : Type 0
Parts = List (ℕ × Part)

-- a part that is held of an origin for a query: it tells something
pub record IsHeldPart (query : Checked) (held : ℕ × Part) : Type 0 where
  pub within : held.0 ≤ LAST_ORIGIN
  pub part : IsPartOf query held.1
  pub some : (0 < held.1.prefix) ⊎ (held.1.early ≢ [])

-- what is held for a query
pub record AreHeldParts (query : Checked) (parts : Parts) : Type 0 where
  pub rising : IsStrictlySortedBy nat_cmp (map (λ (held : ℕ × Part). held.0) parts)
  pub each : AllByRecursion (IsHeldPart query) parts
