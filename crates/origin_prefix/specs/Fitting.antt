-- When a part of an origin fits a world. All of this is our own.
use Rattle.std.specs.Prelude.{◌≡◌, ℕ, ◌*◌, ◌≤◌, List, Some, IsSome}
use Rattle.grouping_model.specs.Datum.{Row}
use Rattle.grouping_model.specs.Query.{Query}
use Rattle.grouping_model.specs.Grouping.{part}
use Rattle.grouping_model.specs.World.{World, rows_upto}
use Rattle.grouping_model.specs.declared.limits.TheConstants.{MAX_ROWS}
use Rattle.batch_reader.specs.Rows.{packings}
use Rattle.group_runs.specs.Standing.{AreGroups}
use Rattle.origin_prefix.specs.Parts.{Part, rows_at}

-- a part fits a world: what it tells are the world's batches of the origin. Its run has the groups of the rows of its prefix, and its early
-- batches have the world's rows, packed
pub record FitsOrigin (query : Query) (world : World) (origin : ℕ) (p : Part) : Type 0 where
  pub there : (number : ℕ) → 1 ≤ number → number ≤ p.prefix → IsSome (world origin number)
  pub run : AreGroups query (p.prefix * MAX_ROWS) p.run (part query (rows_upto world origin p.prefix))
  pub early : (number : ℕ) (rows : List (List ℕ)) → rows_at p.early number ≡ Some rows → (those : List Row)
      × (world origin number ≡ Some those) × (rows ≡ packings those)
